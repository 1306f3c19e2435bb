use Rattle.std.proofs.Common.{◌+◌, ap, length, get_or, arith}
use Rattle.dts_tree.proofs.KeptLemmas.{kept-count, kept-starts, kept-next}
use Rattle.dts_tree.proofs.tree.nodes.Nodes.props.Goals as goal

pub bounds-starts-node : goal.bounds-starts-node
bounds-starts-node c = omega (arith, c.requires, kept-count c.self.inside c.self.invariant c.args.self.now c.self.view_is, kept-starts c.self.inside c.self.invariant c.args.self.now c.self.view_is, ap length c.as_slice-starts.ensures.value)

pub bounds-starts-node-2 : goal.bounds-starts-node-2
bounds-starts-node-2 c = omega (arith, c.requires, kept-count c.self.inside c.self.invariant c.args.self.now c.self.view_is, kept-starts c.self.inside c.self.invariant c.args.self.now c.self.view_is, ap length c.as_slice-starts.ensures.value)

pub overflow_sub-result : goal.overflow_sub-result
overflow_sub-result c =
    let node = c.args.node in
    let same = c.as_slice-starts.ensures.value in
    let next = kept-next c.self.inside c.self.invariant c.args.self.now c.self.view_is node (omega (arith, c.requires, kept-count c.self.inside c.self.invariant c.args.self.now c.self.view_is)) in
    omega (arith, next, ap (λ xs. get_or xs node 0) same, ap (λ xs. get_or xs (node + 1) 0) same)

pub returns : goal.returns
returns c =
    let node = c.args.node in
    let same = c.as_slice-starts.ensures.value in
    let next = kept-next c.self.inside c.self.invariant c.args.self.now c.self.view_is node (omega (arith, c.requires, kept-count c.self.inside c.self.invariant c.args.self.now c.self.view_is)) in
    omega (arith, next, ap (λ xs. get_or xs node 0) same, ap (λ xs. get_or xs (node + 1) 0) same)
