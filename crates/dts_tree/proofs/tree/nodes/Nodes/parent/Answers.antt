use Rattle.std.proofs.Common.{◌∙◌, ◌<◌, ◌-◌, Some, map, ap, sym, length, arith}
use Rattle.std.proofs.lemmas.List.{get_or_read}
use Rattle.std.proofs.lemmas.Option.{get_or_from_slice_get}
use Rattle.dts_tree.proofs.KeptLemmas.{kept-count, kept-root, kept-child, kept-below, kept-led, kept-parent, kept-parent-rank}
use Rattle.dts_tree.proofs.tree.nodes.Nodes.parent.Goals as goal

pub index-number-requires : goal.index-number-requires
index-number-requires c = omega (arith, c.requires, kept-count c.self.inside c.self.invariant c.args.self.now c.self.view_is, c.self.inside.layout.order.ok.0)

pub returns-then-number-eq0-clause-parent : goal.returns-then-number-eq0-clause-parent
returns-then-number-eq0-clause-parent c =
    let order = c.self.inside.layout.order.items in
    let in_node : c.args.node < length order = omega (arith, c.requires, kept-count c.self.inside c.self.invariant c.args.self.now c.self.view_is) in
    let read = get_or_read order c.args.node c.index-number.result.now in_node c.index-number.ensures 0 in
    sym (ap (λ n. n.parent) (kept-root c.self.inside c.self.invariant c.args.self.now c.self.view_is c.args.node c.index-number.result.now in_node read c.if-number-eq0.true))

pub owner-parent-requires : goal.owner-parent-requires
owner-parent-requires c =
    let order = c.self.inside.layout.order.items in
    let in_node : c.args.node < length order = omega (arith, c.requires, kept-count c.self.inside c.self.invariant c.args.self.now c.self.view_is) in
    let read = get_or_read order c.args.node c.index-number.result.now in_node c.index-number.ensures 0 in
    kept-below c.self.inside c.self.invariant c.args.self.now c.self.view_is c.args.node c.index-number.result.now in_node read c.if-number-eq0.false

ranked : (c : goal.After-owner-parent) → c.owner-parent.result < length c.self.inside.layout.ranks.items
ranked c =
    let order = c.self.inside.layout.order.items in
    let v = c.index-number.result.now in
    let in_node : c.args.node < length order = omega (arith, c.requires, kept-count c.self.inside c.self.invariant c.args.self.now c.self.view_is) in
    let read = get_or_read order c.args.node v in_node c.index-number.ensures 0 in
    let below = kept-below c.self.inside c.self.invariant c.args.self.now c.self.view_is c.args.node v in_node read c.if-number-eq0.false in
    let owner = get_or_from_slice_get (map (λ e. e.0.0) c.self.inside.store.children) (v - 1) c.owner-parent.result 0 c.owner-parent.ensures in
    kept-parent c.self.inside c.self.invariant c.args.self.now c.self.view_is (v - 1) c.owner-parent.result below (sym owner)

pub index-requires : goal.index-requires
index-requires c = omega (arith, ranked c, c.self.inside.layout.ranks.ok.0)

pub returns-clause-parent : goal.returns-clause-parent
returns-clause-parent c =
    let order = c.self.inside.layout.order.items in
    let v = c.index-number.result.now in
    let in_node : c.args.node < length order = omega (arith, c.requires, kept-count c.self.inside c.self.invariant c.args.self.now c.self.view_is) in
    let read = get_or_read order c.args.node v in_node c.index-number.ensures 0 in
    let owner = get_or_from_slice_get (map (λ e. e.0.0) c.self.inside.store.children) (v - 1) c.owner-parent.result 0 c.owner-parent.ensures in
    ap Some (kept-parent-rank c.self.inside c.self.invariant c.args.self.now c.self.view_is c.args.node v c.owner-parent.result c.index.result.now in_node read c.if-number-eq0.false owner c.index.ensures)
    ∙ sym (ap (λ n. n.parent) (kept-child c.self.inside c.self.invariant c.args.self.now c.self.view_is c.args.node v in_node read c.if-number-eq0.false))

pub returns-clause-lower : goal.returns-clause-lower
returns-clause-lower c =
    let order = c.self.inside.layout.order.items in
    let v = c.index-number.result.now in
    let in_node : c.args.node < length order = omega (arith, c.requires, kept-count c.self.inside c.self.invariant c.args.self.now c.self.view_is) in
    let read = get_or_read order c.args.node v in_node c.index-number.ensures 0 in
    let owner = get_or_from_slice_get (map (λ e. e.0.0) c.self.inside.store.children) (v - 1) c.owner-parent.result 0 c.owner-parent.ensures in
    omega (arith, kept-parent-rank c.self.inside c.self.invariant c.args.self.now c.self.view_is c.args.node v c.owner-parent.result c.index.result.now in_node read c.if-number-eq0.false owner c.index.ensures, kept-led c.self.inside c.self.invariant c.args.self.now c.self.view_is c.args.node v in_node read c.if-number-eq0.false)
