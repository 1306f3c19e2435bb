use Rattle.std.proofs.Common.{◌≡◌, ◌∙◌, ap, sym, Some, None, map}
use Rattle.std.specs.Option.{option_map}
use Rattle.dts_nodes.specs.Use.{good_child_of}
use Rattle.pmic_tables.specs.ChipDesc.{seen}
use Rattle.board_nodes.specs.Inside.Drafts.{found_in, found_with, found_below}
use Rattle.board_nodes.proofs.RailLemmas.{put-more, put-none}
use Rattle.board_nodes.proofs.draft.put_rails.Goals as goal

pub loop-rail-preserved-in_ok-push : goal.loop-rail-preserved-in_ok-push
loop-rail-preserved-in_ok-push c =
    let nodes = c.args.tree.now in
    let rail = c.in-Some.rail in
    let child : good_child_of nodes c.args.regulators rail.node.bytes ≡ Some c.in-Some-place.node =
    ap (good_child_of nodes c.args.regulators) (sym (c.as_bytes.ensures.value ∙ c.as_str.ensures.value)) ∙ sym c.child-place.ensures.child ∙ c.in-Some-place.is in
    put-more (found_below nodes c.args.chip_node c.args.regulators) (map found_in c.args.drafts.now) c.loop-rail.yielded rail c.loop-rail.drafts c.push.new.self c.in_ok-chip_draft.field-0
    c.in_ok-push.ensures.ok c.loop-rail.invariant
    (ap (option_map (found_with nodes c.args.chip_node (seen rail))) child ∙ ap Some (sym c.in_ok-chip_draft.ensures))

pub loop-rail-preserved : goal.loop-rail-preserved
loop-rail-preserved c =
    let nodes = c.args.tree.now in
    let rail = c.in-Some.rail in
    let child : good_child_of nodes c.args.regulators rail.node.bytes ≡ None =
    ap (good_child_of nodes c.args.regulators) (sym (c.as_bytes.ensures.value ∙ c.as_str.ensures.value)) ∙ sym c.child-place.ensures.child ∙ c.in_default.is in
    put-none (found_below nodes c.args.chip_node c.args.regulators) (map found_in c.args.drafts.now) c.loop-rail.yielded rail c.loop-rail.drafts c.loop-rail.invariant
    (ap (option_map (found_with nodes c.args.chip_node (seen rail))) child)
