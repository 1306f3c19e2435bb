use Rattle.std.proofs.Common.{ℕ, leb, sym, ap, ◌∙◌}
use Rattle.std.specs.Prelude.{option_map}
use Rattle.board.specs.Table.{values_of, passing}
use Rattle.board_load.proofs.PickLemmas.{value_told}
use Rattle.board_load.proofs.TargetLemmas.{least_inside}
use Rattle.board_load.proofs.targets.least_within.Goals as goal

pub returns-in_err-pick : goal.returns-in_err-pick
returns-in_err-pick c =
    c.from_residual.ensures
    ∙ ap (λ o. option_map (λ (p : ℕ × ℕ). p.1) (passing (λ v. leb v c.args.high) o)) c.in_err-pick.ensures.pick
    ∙ sym (least_inside c.args.low c.args.high (values_of c.args.table.now))

pub returns : goal.returns
returns c =
    c.then_some.ensures ∙ value_told (leb c.in_ok-pick.pick.uv c.args.high) c.in_ok-pick.pick
    ∙ ap (λ o. option_map (λ (p : ℕ × ℕ). p.1) (passing (λ v. leb v c.args.high) o)) c.in_ok-pick.ensures.pick
    ∙ sym (least_inside c.args.low c.args.high (values_of c.args.table.now))
