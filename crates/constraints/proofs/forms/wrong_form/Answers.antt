use Rattle.std.proofs.Common.{◌∙◌, [], ◌∷◌, ap, sym}
use Rattle.std.specs.List.{list_any}
use Rattle.dts_nodes.specs.Forms.{first_string_at, is_wrong}
use Rattle.constraints.specs.declared.prop.Prop.TheVariants as prop
use Rattle.constraints.specs.Prop.{name_of}
use Rattle.constraints.specs.Sleeps.{has_wrong_suspend, is_wrong_value}
use Rattle.constraints.specs.Faults.{number_props, number_forms, mode_forms, coupling_forms, first_wrong}
use Rattle.constraints.proofs.FormLemmas.{wrong_by_number, wrong_by_mode, wrong_by_couples, wrong_asleep}
use Rattle.constraints.proofs.forms.wrong_form.Goals as goal

pub returns-then-is_some : goal.returns-then-is_some
returns-then-is_some c =
    let nodes = c.args.tree.now in
    let node = c.args.node in
    let desc = c.args.desc.now in
    let named = sym c.in_ok-is_wrong_name.ensures ∙ c.if-branch.false in
    wrong_by_number (is_wrong (first_string_at nodes node (name_of prop.Name))) (number_forms nodes node number_props) (mode_forms nodes node desc) (coupling_forms nodes node)
    ((prop.SuspendMicrovolt, has_wrong_suspend nodes node) ∷ []) c.in_ok-number.number named c.in_ok-number.ensures (sym c.is_some.ensures ∙ c.if-is_some.true)

pub returns-then-is_some-2 : goal.returns-then-is_some-2
returns-then-is_some-2 c =
    let nodes = c.args.tree.now in
    let node = c.args.node in
    let desc = c.args.desc.now in
    let named = sym c.in_ok-is_wrong_name.ensures ∙ c.if-branch.false in
    wrong_by_mode (is_wrong (first_string_at nodes node (name_of prop.Name))) (number_forms nodes node number_props) (mode_forms nodes node desc) (coupling_forms nodes node)
    ((prop.SuspendMicrovolt, has_wrong_suspend nodes node) ∷ []) c.in_ok-number.number c.in_ok-mode.mode named c.in_ok-number.ensures (sym c.is_some.ensures ∙ c.if-is_some.false)
    c.in_ok-mode.ensures (sym c.is_some-2.ensures ∙ c.if-is_some-2.true)

pub returns-then-is_some-3 : goal.returns-then-is_some-3
returns-then-is_some-3 c =
    let nodes = c.args.tree.now in
    let node = c.args.node in
    let desc = c.args.desc.now in
    let named = sym c.in_ok-is_wrong_name.ensures ∙ c.if-branch.false in
    wrong_by_couples (is_wrong (first_string_at nodes node (name_of prop.Name))) (number_forms nodes node number_props) (mode_forms nodes node desc) (coupling_forms nodes node)
    ((prop.SuspendMicrovolt, has_wrong_suspend nodes node) ∷ []) c.in_ok-number.number c.in_ok-mode.mode c.in_ok-coupling.coupling named c.in_ok-number.ensures (sym c.is_some.ensures ∙ c.if-is_some.false)
    c.in_ok-mode.ensures (sym c.is_some-2.ensures ∙ c.if-is_some-2.false) c.in_ok-coupling.ensures (sym c.is_some-3.ensures ∙ c.if-is_some-3.true)

pub returns-then-branch-2 : goal.returns-then-branch-2
returns-then-branch-2 c =
    let nodes = c.args.tree.now in
    let node = c.args.node in
    let desc = c.args.desc.now in
    let named = sym c.in_ok-is_wrong_name.ensures ∙ c.if-branch.false in
    let asleep = sym c.if-branch-2.true ∙ c.in_ok-has_wrong_suspend.ensures ∙ ap (list_any (is_wrong_value nodes)) c.requires in
    ap (λ wrong. first_wrong ((prop.SuspendMicrovolt, wrong) ∷ [])) asleep
    ∙ wrong_asleep (is_wrong (first_string_at nodes node (name_of prop.Name))) (number_forms nodes node number_props) (mode_forms nodes node desc) (coupling_forms nodes node)
    ((prop.SuspendMicrovolt, has_wrong_suspend nodes node) ∷ []) c.in_ok-number.number c.in_ok-mode.mode c.in_ok-coupling.coupling named c.in_ok-number.ensures (sym c.is_some.ensures ∙ c.if-is_some.false)
    c.in_ok-mode.ensures (sym c.is_some-2.ensures ∙ c.if-is_some-2.false) c.in_ok-coupling.ensures (sym c.is_some-3.ensures ∙ c.if-is_some-3.false)

pub returns : goal.returns
returns c =
    let nodes = c.args.tree.now in
    let node = c.args.node in
    let desc = c.args.desc.now in
    let named = sym c.in_ok-is_wrong_name.ensures ∙ c.if-branch.false in
    let asleep = sym c.if-branch-2.false ∙ c.in_ok-has_wrong_suspend.ensures ∙ ap (list_any (is_wrong_value nodes)) c.requires in
    ap (λ wrong. first_wrong ((prop.SuspendMicrovolt, wrong) ∷ [])) asleep
    ∙ wrong_asleep (is_wrong (first_string_at nodes node (name_of prop.Name))) (number_forms nodes node number_props) (mode_forms nodes node desc) (coupling_forms nodes node)
    ((prop.SuspendMicrovolt, has_wrong_suspend nodes node) ∷ []) c.in_ok-number.number c.in_ok-mode.mode c.in_ok-coupling.coupling named c.in_ok-number.ensures (sym c.is_some.ensures ∙ c.if-is_some.false)
    c.in_ok-mode.ensures (sym c.is_some-2.ensures ∙ c.if-is_some-2.false) c.in_ok-coupling.ensures (sym c.is_some-3.ensures ∙ c.if-is_some-3.false)
