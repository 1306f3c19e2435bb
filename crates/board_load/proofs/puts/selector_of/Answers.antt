use Rattle.std.proofs.Common.{Some, None, sym, ◌∙◌}
use Rattle.std.specs.Prelude.{◌==◌}
use Rattle.board_load.proofs.PickLemmas.{selector_by_pick, selector_told}
use Rattle.board_load.proofs.puts.selector_of.Goals as goal

pub returns-in_err-pick : goal.returns-in_err-pick
returns-in_err-pick c = λ rail is. c.from_residual.ensures ∙ sym (selector_by_pick rail c.args.table.now c.args.uv None is c.in_err-pick.ensures.pick)

pub returns : goal.returns
returns c = λ rail is.
    c.then_some.ensures ∙ selector_told (c.in_ok-pick.pick.uv == c.args.uv) c.in_ok-pick.pick
    ∙ sym (selector_by_pick rail c.args.table.now c.args.uv (Some c.in_ok-pick.pick) is c.in_ok-pick.ensures.pick)
