use Rattle.std.proofs.Common.{◌≡◌, ◌∷◌, ◌++◌, ◌∙◌, ◌<◌, ap, [], List, ℕ, None, length, reverse, arith}
use Rattle.std.proofs.lemmas.List.{get_or_read}
use Rattle.std.proofs.lemmas.Result.{IfOk-from_err}
use Rattle.dts_tree.specs.Order.{children_from, in_tree_order}
use Rattle.dts_tree.specs.Inside.Links.{listed, first_of, Linked}
use Rattle.dts_tree.proofs.OrderLemmas.{siblings_after, linked-next, pending-step, inside-step, reverse-puts, pending-root, walk-left, reverse-taken, waits_after}
use Rattle.dts_tree.proofs.tree.order.tree_order.Goals as goal

pub loop-node-init : goal.loop-node-init
loop-node-init c =
    let waiting : c.push.new.self.items ≡ 0 ∷ [] = c.in_ok-push.ensures.items ∙ ap (λ (ws : List ℕ). ws ++ 0 ∷ []) c.new-waiting.ensures.items in
    rw (waiting, c.in_ok-order.ensures.items) (record { inside = (c.requires.some, tt); left = pending-root c.args.parents.now })

-- what waits after the step
waits : (c : goal.In_ok-put-2) → reverse c.put-in-Some.new.waiting.items ≡ waits_after c.args.parents.now c.in-Some.node (reverse c.pop.new.self.items)
waits c =
    let parents = c.args.parents.now in
    let s = c.in-Some.node in
    let links = c.in_ok-links.links in
    let linked : Linked parents (length parents) links.first.items links.next.items 1 = c.in_ok-links.ensures in
    let taken = reverse-taken c.loop-node.waiting.items c.pop.new.self.items s c.in-Some.ensures.items in
    let inside : s < length parents = (rw taken at c.loop-node.invariant.inside).0 in
    let next : c.index.result.now ≡ first_of (siblings_after parents s) = get_or_read links.next.items s c.index.result.now (rw linked.nexts inside) c.index.ensures None ∙ linked-next parents links.first.items links.next.items s linked inside in
    let child : c.index-in-Some.result.now ≡ first_of (children_from parents s 1) = get_or_read links.first.items s c.index-in-Some.result.now (rw linked.firsts inside) c.index-in-Some.ensures None ∙ linked.child s inside in
    ap reverse (c.in_ok-put-2.ensures ∙ ap (λ ws. ws ++ listed c.index-in-Some.result.now) c.in_ok-put.ensures)
    ∙ (reverse-puts c.pop.new.self.items c.index.result.now c.index-in-Some.result.now
    ∙ (ap (λ o. listed o ++ (listed c.index.result.now ++ reverse c.pop.new.self.items)) child
    ∙ ap (λ o. listed (first_of (children_from parents s 1)) ++ (listed o ++ reverse c.pop.new.self.items)) next))

pub loop-node-preserved : goal.loop-node-preserved
loop-node-preserved c =
    let taken = reverse-taken c.loop-node.waiting.items c.pop.new.self.items c.in-Some.node c.in-Some.ensures.items in
    record {
      inside = rw (waits c) (inside-step c.args.parents.now c.in-Some.node (reverse c.pop.new.self.items) (rw taken at c.loop-node.invariant.inside).1);
      left = walk-left c.args.parents.now c.loop-node.order.items c.pop.new.self.items c.push-in-Some.new.self.items c.put-in-Some.new.waiting.items c.in-Some.node (in_tree_order c.args.parents.now) c.requires.earlier c.requires.some c.in_ok-push-2.ensures.items (waits c) (rw taken at c.loop-node.invariant.left);
    }

pub loop-node-smaller : goal.loop-node-smaller
loop-node-smaller c =
    let taken = reverse-taken c.loop-node.waiting.items c.pop.new.self.items c.in-Some.node c.in-Some.ensures.items in
    let step = pending-step c.args.parents.now c.in-Some.node (reverse c.pop.new.self.items) c.requires.earlier c.requires.some in
    rw (taken, waits c) (omega (arith, ap length step))

pub index-requires : goal.index-requires
index-requires c =
    let taken = reverse-taken c.loop-node.waiting.items c.pop.new.self.items c.in-Some.node c.in-Some.ensures.items in
    let linked : Linked c.args.parents.now (length c.args.parents.now) c.in_ok-links.links.first.items c.in_ok-links.links.next.items 1 = c.in_ok-links.ensures in
    omega (arith, (rw taken at c.loop-node.invariant.inside).0, linked.nexts, c.in_ok-links.links.next.ok.0)

pub index-requires-in-Some : goal.index-requires-in-Some
index-requires-in-Some c =
    let taken = reverse-taken c.loop-node.waiting.items c.pop.new.self.items c.in-Some.node c.in-Some.ensures.items in
    let linked : Linked c.args.parents.now (length c.args.parents.now) c.in_ok-links.links.first.items c.in_ok-links.links.next.items 1 = c.in_ok-links.ensures in
    omega (arith, (rw taken at c.loop-node.invariant.inside).0, linked.firsts, c.in_ok-links.links.first.ok.0)

pub returns-in_err-links : goal.returns-in_err-links
returns-in_err-links c = IfOk-from_err _ _ c.from_residual.ensures.0

pub returns-in_err-push : goal.returns-in_err-push
returns-in_err-push c = IfOk-from_err _ _ c.from_residual-in_err-push.ensures.0

pub returns-in_err-push-2 : goal.returns-in_err-push-2
returns-in_err-push-2 c = IfOk-from_err _ _ c.from_residual-in_err-push-2.ensures.0

pub returns-in_err-put : goal.returns-in_err-put
returns-in_err-put c = IfOk-from_err _ _ c.from_residual-in_err-put.ensures.0

pub returns-in_err-put-2 : goal.returns-in_err-put-2
returns-in_err-put-2 c = IfOk-from_err _ _ c.from_residual-in_err-put-2.ensures.0

pub returns-in_err-order : goal.returns-in_err-order
returns-in_err-order c = IfOk-from_err _ _ c.from_residual-in_err-order.ensures.0
