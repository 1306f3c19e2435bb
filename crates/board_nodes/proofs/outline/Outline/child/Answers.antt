use Rattle.std.proofs.Common.{◌≡◌, ◌+◌, ◌∙◌, sym, None, arith}
use Rattle.std.proofs.lemmas.List.{get_or_read}
use Rattle.board_nodes.specs.Inside.Siblings.{first_below}
use Rattle.board_nodes.proofs.WalkLemmas.{walk, walk-hit, walk-miss, good_from-all, falls, IsChild-weaker}
use Rattle.board_nodes.proofs.outline.Outline.child.Goals as goal

pub loop-at-init : goal.loop-at-init
loop-at-init c =
    let nodes = c.args.tree.now in
    let s = c.requires.outline.siblings in
    let parent = c.args.parent in
    let is : first_below nodes parent 0 ≡ c.index-at.result.now =
    sym (get_or_read c.args.self.now.siblings.first.items parent c.index-at.result.now (omega (arith, s.firsts, c.requires.parent.inside)) c.index-at.ensures None ∙ s.child parent c.requires.parent.inside) in
    let from = walk nodes parent c.args.name.now 0 (omega arith) c.index-at.result.now is in
    record { rest = sym (good_from-all nodes parent c.args.name.now) ∙ from.0; child = from.1 }

pub returns-then-is_named-clause-child : goal.returns-then-is_named-clause-child
returns-then-is_named-clause-child c =
    let nodes = c.args.tree.now in
    let parent = c.args.parent in
    let node = c.in-Some.node in
    let at = rw c.in-Some.is at c.loop-at.invariant.child in
    let rest = rw c.in-Some.is at c.loop-at.invariant.rest in
    let lower = c.requires.outline.siblings.lower node parent at.0 at.1 at.2 in
    sym (rest ∙ walk-hit nodes parent c.args.name.now node at.1 at.2 lower c.requires.parent.used (sym c.is_named.ensures ∙ c.if-is_named.true))

pub loop-at-smaller : goal.loop-at-smaller
loop-at-smaller c =
    let nodes = c.args.tree.now in
    let parent = c.args.parent in
    let node = c.in-Some.node in
    let s = c.requires.outline.siblings in
    let at = rw c.in-Some.is at c.loop-at.invariant.child in
    let is : first_below nodes parent (node + 1) ≡ c.index-at-in-Some.result.now =
    sym (get_or_read c.args.self.now.siblings.next.items node c.index-at-in-Some.result.now (omega (arith, s.nexts, at.1)) c.index-at-in-Some.ensures None ∙ s.sibling node parent at.0 at.1 at.2) in
    let from = walk nodes parent c.args.name.now (node + 1) (omega (arith, at.1)) c.index-at-in-Some.result.now is in
    falls nodes parent node at.1 c.index-at-in-Some.result.now from.1 c.loop-at.at c.in-Some.is

pub loop-at-preserved : goal.loop-at-preserved
loop-at-preserved c =
    let nodes = c.args.tree.now in
    let parent = c.args.parent in
    let node = c.in-Some.node in
    let s = c.requires.outline.siblings in
    let at = rw c.in-Some.is at c.loop-at.invariant.child in
    let rest = rw c.in-Some.is at c.loop-at.invariant.rest in
    let lower = s.lower node parent at.0 at.1 at.2 in
    let is : first_below nodes parent (node + 1) ≡ c.index-at-in-Some.result.now =
    sym (get_or_read c.args.self.now.siblings.next.items node c.index-at-in-Some.result.now (omega (arith, s.nexts, at.1)) c.index-at-in-Some.ensures None ∙ s.sibling node parent at.0 at.1 at.2) in
    let from = walk nodes parent c.args.name.now (node + 1) (omega (arith, at.1)) c.index-at-in-Some.result.now is in
    record {
      rest = rest ∙ walk-miss nodes parent c.args.name.now node at.1 at.2 lower c.requires.parent.used (sym c.is_named.ensures ∙ c.if-is_named.false) ∙ from.0;
      child = IsChild-weaker nodes parent node c.index-at-in-Some.result.now from.1;
    }
