use Rattle.std.proofs.Common.{◌++◌, ap, ◌∙◌, subst, sym}
use Rattle.std.specs.Str.{IsUtf8}
use Rattle.board_draft.specs.Text.{text_of}
use Rattle.session.proofs.RefusalTexts.{IsUtf8-text_of}
use Rattle.session.proofs.fault_text.board_text.Goals as goal

pub unwrap-requires : goal.unwrap-requires
unwrap-requires c =
    c.from_utf8.ensures.succeeds
    (subst IsUtf8 (sym (c.in_ok-text.ensures.ok ∙ ap (λ xs. xs ++ text_of c.args.fault) c.new-bytes.ensures.items)) (IsUtf8-text_of c.args.fault))
