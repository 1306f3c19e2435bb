use Rattle.std.proofs.Common.{ap, ◌∙◌, flat_map}
use Rattle.std.proofs.lemmas.List.{take_all}
use Rattle.std.proofs.lemmas.Result.{IfOk-from_err}
use Rattle.rows.specs.Row.{row_text, NamesRail, HasRails}
use Rattle.regulator_main.proofs.Texts.{each_read, printed_next}
use Rattle.regulator_main.proofs.play.rows_text.Goals as goal

pub loop-row-init : goal.loop-row-init
loop-row-init c = c.new-text.ensures.items

pub text-requires : goal.text-requires
text-requires c = record {
  call = each_read (λ row. NamesRail c.args.board.now row.call) _ _ _ c.requires.calls c.loop-row-test.true c.row-item.is;
  answer = each_read (λ row. HasRails c.args.board.now row.answer) _ _ _ c.requires.answers c.loop-row-test.true c.row-item.is;
}

pub returns-in_err-text : goal.returns-in_err-text
returns-in_err-text c = IfOk-from_err _ _ c.from_residual.ensures.0

pub loop-row-preserved : goal.loop-row-preserved
loop-row-preserved c =
    printed_next (row_text c.args.board.now) c.args.rows.now c.loop-row.row-index c.row-item.result c.loop-row.text.items c.text.new.out.items
    c.loop-row-test.true c.row-item.is c.loop-row.invariant c.in_ok-text.ensures.ok

pub returns : goal.returns
returns c = c.loop-row.invariant ∙ ap (flat_map (row_text c.args.board.now)) (take_all c.loop-row.row-index c.args.rows.now c.loop-row-test.false)
