use Rattle.std.proofs.Common.{◌∙◌, ap, sym, length, arith}
use Rattle.std.specs.List.{find}
use Rattle.std.specs.Option.{option_map}
use Rattle.dts_tree.specs.Look.{bare}
use Rattle.std.proofs.Common.{Some, get_or, ℕ}
use Rattle.board_nodes.specs.Chips.{is_unknown_chip}
use Rattle.board_nodes.proofs.RangeLemmas.{find-here, find-past, range-all}
use Rattle.board_nodes.proofs.chips.unknown_chip.Goals as goal

pub loop-node-init : goal.loop-node-init
loop-node-init c = ap (λ xs. find (is_unknown_chip c.args.tree.now) xs) (sym (range-all (length c.args.tree.now)))

pub loop-node-preserved : goal.loop-node-preserved
loop-node-preserved c =
    let nodes = c.args.tree.now in
    let node = c.loop-node.node in
    c.loop-node.invariant ∙ find-past (is_unknown_chip nodes) node (length nodes) (omega (arith, c.count-node-end.ensures.count)) (sym c.in_ok-is_unknown_chip.ensures ∙ c.if-branch.false)

pub returns-then-branch : goal.returns-then-branch
returns-then-branch c =
    let nodes = c.args.tree.now in
    let node = c.loop-node.node in
    let there = find-here (is_unknown_chip nodes) node (length nodes) (omega (arith, c.count-node-end.ensures.count)) (sym c.in_ok-is_unknown_chip.ensures ∙ c.if-branch.true) in
    let at : ℕ → ℕ = λ n. (get_or nodes n bare).at in
    ap Some c.at.ensures ∙ sym (ap (option_map at) (c.loop-node.invariant ∙ there))
