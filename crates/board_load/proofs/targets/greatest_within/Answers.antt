use Rattle.std.proofs.Common.{ℕ, leb, sym, ap, ◌∙◌}
use Rattle.std.specs.Prelude.{option_map}
use Rattle.linear_range.specs.Values.{pick_low}
use Rattle.board.specs.Table.{values_of, passing}
use Rattle.board_load.proofs.PickLemmas.{value_told}
use Rattle.board_load.proofs.TargetLemmas.{greatest_inside}
use Rattle.board_load.proofs.targets.greatest_within.Goals as goal

pub returns-in_err-pick : goal.returns-in_err-pick
returns-in_err-pick c =
    let pairs = values_of c.args.table.now in
    let pick = c.in_err-pick.ensures.pick ∙ ap (pick_low pairs) c.min.ensures in
    c.from_residual.ensures
    ∙ ap (λ o. option_map (λ (p : ℕ × ℕ). p.1) (passing (leb c.args.low) o)) pick
    ∙ sym (greatest_inside c.args.low c.args.high c.args.most pairs)

pub returns : goal.returns
returns c =
    let pairs = values_of c.args.table.now in
    let pick = c.in_ok-pick.ensures.pick ∙ ap (pick_low pairs) c.min.ensures in
    c.then_some.ensures ∙ value_told (leb c.args.low c.in_ok-pick.pick.uv) c.in_ok-pick.pick
    ∙ ap (λ o. option_map (λ (p : ℕ × ℕ). p.1) (passing (leb c.args.low) o)) pick
    ∙ sym (greatest_inside c.args.low c.args.high c.args.most pairs)
