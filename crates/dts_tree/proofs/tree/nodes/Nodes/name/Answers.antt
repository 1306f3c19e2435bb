use Rattle.std.proofs.Common.{◌∙◌, ◌<◌, ap, sym, length, arith}
use Rattle.std.proofs.lemmas.List.{get_or_read}
use Rattle.dts_tree.proofs.KeptLemmas.{kept-count, kept-root, kept-child, kept-below}
use Rattle.dts_tree.proofs.tree.nodes.Nodes.name.Goals as goal

pub index-number-requires : goal.index-number-requires
index-number-requires c = omega (arith, c.requires, kept-count c.self.inside c.self.invariant c.args.self.now c.self.view_is, c.self.inside.layout.order.ok.0)

pub returns-then-number-eq0 : goal.returns-then-number-eq0
returns-then-number-eq0 c =
    let order = c.self.inside.layout.order.items in
    let in_node : c.args.node < length order = omega (arith, c.requires, kept-count c.self.inside c.self.invariant c.args.self.now c.self.view_is) in
    let read = get_or_read order c.args.node c.index-number.result.now in_node c.index-number.ensures 0 in
    sym (ap (λ n. n.name) (kept-root c.self.inside c.self.invariant c.args.self.now c.self.view_is c.args.node c.index-number.result.now in_node read c.if-number-eq0.true))

pub name-requires : goal.name-requires
name-requires c =
    let order = c.self.inside.layout.order.items in
    let in_node : c.args.node < length order = omega (arith, c.requires, kept-count c.self.inside c.self.invariant c.args.self.now c.self.view_is) in
    let read = get_or_read order c.args.node c.index-number.result.now in_node c.index-number.ensures 0 in
    kept-below c.self.inside c.self.invariant c.args.self.now c.self.view_is c.args.node c.index-number.result.now in_node read c.if-number-eq0.false

pub returns : goal.returns
returns c =
    let order = c.self.inside.layout.order.items in
    let in_node : c.args.node < length order = omega (arith, c.requires, kept-count c.self.inside c.self.invariant c.args.self.now c.self.view_is) in
    let read = get_or_read order c.args.node c.index-number.result.now in_node c.index-number.ensures 0 in
    sym c.name.ensures ∙ sym (ap (λ n. n.name) (kept-child c.self.inside c.self.invariant c.args.self.now c.self.view_is c.args.node c.index-number.result.now in_node read c.if-number-eq0.false))
