use Rattle.std.proofs.Common.{◌-◌, ◌+◌, ◌≡◌, ◌∙◌, sym, ap, length, get_or, arith, rules}
use Rattle.std.proofs.lemmas.List.{length-set, get_or-replicate}
use Rattle.std.proofs.lemmas.Result.{IfOk-from_err}
use Rattle.dts_tree.proofs.RankLemmas.{rank-start, rank-other, rank-step}
use Rattle.dts_tree.proofs.tree.order.ranks_of.Goals as goal

pub loop-at-init : goal.loop-at-init
loop-at-init c =
    let each = c.in_ok-ranks.ensures.items_if_clones_equal (λ y h. search rules) in
    record {
      high = omega arith;
      long = sym c.in_ok-ranks.ranks.ok.0 ∙ c.in_ok-ranks.ensures.len;
      ranks = λ k in_k. rank-start c.in_ok-ranks.ranks.items c.args.order.now k (ap (λ xs. get_or xs k 0) each ∙ get_or-replicate c.args.count k (length c.args.order.now) 0 in_k);
    }

pub loop-at-preserved-then-node-count : goal.loop-at-preserved-then-node-count
loop-at-preserved-then-node-count c =
    let at = c.loop-at.at - 1 in
    let h = c.loop-at.invariant in
    let next : at + 1 ≡ c.loop-at.at = omega arith in
    record {
      high = omega arith;
      long = length-set c.loop-at.ranks.items (get_or c.args.order.now at 0) at ∙ h.long;
      ranks = λ k in_k. rank-step c.args.order.now at k (omega arith) c.loop-at.ranks.items (omega (arith, h.long, in_k)) (rw next (h.ranks k in_k));
    }

pub loop-at-preserved : goal.loop-at-preserved
loop-at-preserved c =
    let at = c.loop-at.at - 1 in
    let h = c.loop-at.invariant in
    let next : at + 1 ≡ c.loop-at.at = omega arith in
    record {
      high = omega arith;
      long = h.long;
      ranks = λ k in_k. rank-other c.args.order.now at k (omega arith) c.loop-at.ranks.items (λ is. omega (arith, is, in_k)) (rw next (h.ranks k in_k));
    }

pub returns-in_err-ranks : goal.returns-in_err-ranks
returns-in_err-ranks c =
    let exit = c.from_residual.ensures in
    record { long = IfOk-from_err _ _ exit.0; ranks = IfOk-from_err _ _ exit.0 }
