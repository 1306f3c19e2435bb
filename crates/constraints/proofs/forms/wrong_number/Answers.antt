use Rattle.std.proofs.Common.{◌∙◌, ◌≡◌, true, false, get_or, ap, sym, arith}
use Rattle.dts_nodes.specs.Forms.{number_at, is_wrong}
use Rattle.constraints.specs.declared.prop.Prop.TheVariants as prop
use Rattle.constraints.specs.Faults.{number_props, is_no_number}
use Rattle.constraints.proofs.FormLemmas.{first_found, still_none}
use Rattle.constraints.proofs.forms.wrong_number.Goals as goal

pub returns-then-is_wrong : goal.returns-then-is_wrong
returns-then-is_wrong c =
    let nodes = c.args.tree.now in
    let node = c.args.node in
    let i = c.loop-prop.prop-index in
    let wrong : is_no_number nodes node (get_or number_props i prop.Name) ≡ true =
    ap (λ name. is_wrong (number_at nodes node name)) (sym c.name.ensures) ∙ ap is_wrong (sym c.in_ok-form.ensures) ∙ sym c.is_wrong.ensures ∙ c.if-is_wrong.true in
    first_found (is_no_number nodes node) number_props i prop.Name (omega arith) c.loop-prop.invariant wrong

pub loop-prop-preserved : goal.loop-prop-preserved
loop-prop-preserved c =
    let nodes = c.args.tree.now in
    let node = c.args.node in
    let i = c.loop-prop.prop-index in
    let right : is_no_number nodes node (get_or number_props i prop.Name) ≡ false =
    ap (λ name. is_wrong (number_at nodes node name)) (sym c.name.ensures) ∙ ap is_wrong (sym c.in_ok-form.ensures) ∙ sym c.is_wrong.ensures ∙ c.if-is_wrong.false in
    still_none (is_no_number nodes node) number_props i prop.Name (omega arith) c.loop-prop.invariant right
