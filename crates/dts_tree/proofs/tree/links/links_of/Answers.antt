use Rattle.std.proofs.Common.{◌≡◌, ◌+◌, ◌-◌, ◌<◌, sym, subst, ℕ, ◌∙◌, None, get_or, length, arith, rules}
use Rattle.std.proofs.lemmas.List.{get_or_read}
use Rattle.std.proofs.lemmas.Result.{IfOk-from_err}
use Rattle.dts_tree.specs.Inside.Links.{Linked}
use Rattle.dts_tree.proofs.LinkLemmas.{linked_start, linked_more, none_each}
use Rattle.dts_tree.proofs.tree.links.links_of.Goals as goal

pub loop-k-init : goal.loop-k-init
loop-k-init c = record {
  low = c.requires.inside;
  high = omega arith;
  linked = linked_start c.args.owners.now c.args.count c.in_ok-first.first.items c.in_ok-next.next.items
      (sym c.in_ok-first.first.ok.0 ∙ c.in_ok-first.ensures.len) (sym c.in_ok-next.next.ok.0 ∙ c.in_ok-next.ensures.len)
      (none_each c.in_ok-first.first.items c.args.count (c.in_ok-first.ensures.items_if_clones_equal (λ y h. search rules)))
      (none_each c.in_ok-next.next.items (length c.args.owners.now) (c.in_ok-next.ensures.items_if_clones_equal (λ y h. search rules)));
}

pub loop-k-preserved : goal.loop-k-preserved
loop-k-preserved c =
    let k = c.loop-k.k - 1 in
    let h = c.loop-k.invariant in
    let owned : get_or c.args.owners.now k 0 < c.args.count = c.requires.owned k (omega arith) (omega arith) in
    let one_more : k + 1 ≡ c.loop-k.k = omega arith in
    let before : Linked c.args.owners.now c.args.count c.loop-k.first.items c.loop-k.next.items (k + 1) = rw one_more h.linked in
    record {
      low = omega arith;
      high = omega arith;
      linked = linked_more c.args.owners.now c.args.count c.loop-k.first.items c.loop-k.next.items k c.index.result.now (omega arith) owned
          (get_or_read c.loop-k.first.items (get_or c.args.owners.now k 0) c.index.result.now (rw h.linked.firsts owned) c.index.ensures None)
          before;
    }

pub returns : goal.returns
returns c =
    let at : c.loop-k.k ≡ c.args.from = omega (arith, c.loop-k.invariant.low, c.loop-k-test.false) in
    subst (λ (k : ℕ). Linked c.args.owners.now c.args.count c.loop-k.first.items c.loop-k.next.items k) at c.loop-k.invariant.linked

pub returns-in_err-first : goal.returns-in_err-first
returns-in_err-first c = IfOk-from_err _ _ c.from_residual.ensures.0

pub returns-in_err-next : goal.returns-in_err-next
returns-in_err-next c = IfOk-from_err _ _ c.from_residual-in_err-next.ensures.0
