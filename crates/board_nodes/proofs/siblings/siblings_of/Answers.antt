use Rattle.std.proofs.Common.{◌≡◌, ℕ, ◌+◌, ◌-◌, ◌<◌, None, Some, length, sym, ◌∙◌, arith}
use Rattle.std.proofs.lemmas.List.{get_or_read}
use Rattle.dts_nodes.specs.Use.{parent_of}
use Rattle.board_nodes.specs.Inside.Siblings.{IsSiblings}
use Rattle.board_nodes.proofs.SiblingLemmas.{siblings_root, siblings_more}
use Rattle.board_nodes.proofs.siblings.siblings_of.Goals as goal

pub loop-node-preserved-in-Some : goal.loop-node-preserved-in-Some
loop-node-preserved-in-Some c =
    let nodes = c.args.tree.now in
    let k : ℕ = c.loop-node.node - 1 in
    let h = c.loop-node.invariant in
    let one_more : k + 1 ≡ c.loop-node.node = omega arith in
    let before : IsSiblings nodes c.loop-node.first.items c.loop-node.next.items (k + 1) = rw one_more h.siblings in
    let is : parent_of nodes k ≡ Some c.in-Some.parent = sym c.parent.ensures.parent ∙ c.in-Some.is in
    let low : c.in-Some.parent < k = rw c.in-Some.is at c.parent.ensures.lower in
    let inside : c.in-Some.parent < length c.loop-node.first.items = omega (arith, before.firsts, low) in
    record {
      high = omega arith;
      siblings = siblings_more nodes c.loop-node.first.items c.loop-node.next.items k c.in-Some.parent c.index.result.now (omega arith) is low
          (get_or_read c.loop-node.first.items c.in-Some.parent c.index.result.now inside c.index.ensures None)
          before;
    }

pub loop-node-preserved : goal.loop-node-preserved
loop-node-preserved c =
    let nodes = c.args.tree.now in
    let k : ℕ = c.loop-node.node - 1 in
    let one_more : k + 1 ≡ c.loop-node.node = omega arith in
    let before : IsSiblings nodes c.loop-node.first.items c.loop-node.next.items (k + 1) = rw one_more c.loop-node.invariant.siblings in
    record {
      high = omega arith;
      siblings = siblings_root nodes c.loop-node.first.items c.loop-node.next.items k (omega arith) (sym c.parent.ensures.parent ∙ c.in_default.is) before;
    }
