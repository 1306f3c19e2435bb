use Rattle.std.proofs.Common.{◌≡◌, ◌∙◌}
use Rattle.plain_board.specs.Text.{summary_text}
use Rattle.rows.proofs.Appended.{OnOk-appended, OnErr-appended}
use Rattle.plain_board.proofs.summary_text.summary.Goals as goal

pub rails_text-requires : goal.rails_text-requires
rails_text-requires c = record { valid = c.requires.valid; inv = c.requires.inv; few = c.requires.few }

pub returns-clause-ok : goal.returns-clause-ok
returns-clause-ok c =
    let all : c.as_bytes.result.now ≡ summary_text c.args.board.now c.args.plain.now c.args.workers c.args.rows =
    c.as_bytes.ensures.value ∙ c.in_ok-push_str.ensures.bytes ∙ simp (c.in_ok-text.ensures, c.as_str.ensures.value, c.in_ok-last.ensures) in
    OnOk-appended _ _ _ _ (rw all at c.extend_from_slice.ensures.items)

pub returns-clause-err : goal.returns-clause-err
returns-clause-err c = OnErr-appended _ _ _ _ c.extend_from_slice.ensures.items
