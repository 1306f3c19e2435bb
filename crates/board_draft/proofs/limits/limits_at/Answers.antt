use Rattle.std.proofs.Common.{◌≡◌, ◌∙◌, Some, None, sym, ap}
use Rattle.std.proofs.lemmas.Result.{err_from_is_err_and}
use Rattle.dts_nodes.specs.Forms.{is_wrong}
use Rattle.constraints.specs.Faults.{wrong_form}
use Rattle.board_nodes.specs.Rails.{seen}
use Rattle.board_draft.proofs.RailFaults.{not_wrong, by_value, of_rail-memory, none_by_some}
use Rattle.board_draft.proofs.limits.limits_at.Goals as goal

pub returns-in_err-limits : goal.returns-in_err-limits
returns-in_err-limits c =
    let p = err_from_is_err_and c.from_residual-in_err-limits.result c.from_residual-in_err-limits.ensures.1 in
    let right : wrong_form c.args.tree.now c.args.rail.now.node c.args.rail.now.desc ≡ None = sym c.in_ok-prop.ensures ∙ c.in_default.is in
    let good = ap is_wrong (sym c.in_ok-supply_form.ensures) ∙ not_wrong c.in_ok-supply_form.field-0 c.in_default-2.not-Wrong in
    rw p.1 (record {
      fault = λ ne.
          by_value c.args.tree.now c.args.r (seen c.args.rail.now) c.is_none-fixed.result _ right good (none_by_some _ _ c.is_none-fixed.ensures) (c.in_err-limits.ensures.fault (of_rail-memory c.in_err-limits.field-0.0 p.0 p.2 ne))
          ∙ ap Some (sym p.2);
      none = tt;
      limits = tt;
    })

pub returns : goal.returns
returns c =
    let right : wrong_form c.args.tree.now c.args.rail.now.node c.args.rail.now.desc ≡ None = sym c.in_ok-prop.ensures ∙ c.in_default.is in
    let good = ap is_wrong (sym c.in_ok-supply_form.ensures) ∙ not_wrong c.in_ok-supply_form.field-0 c.in_default-2.not-Wrong in
    record {
      fault = tt;
      none = by_value c.args.tree.now c.args.r (seen c.args.rail.now) c.is_none-fixed.result None right good (none_by_some _ _ c.is_none-fixed.ensures) c.in_ok-limits.ensures.none;
      limits = c.in_ok-limits.ensures.constraints;
    }
