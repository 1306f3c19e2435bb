use Rattle.std.proofs.Common.{◌≡◌, ℕ, ◌+◌, ◌*◌, ◌≤◌, refl, add-zero, sym, ◌∙◌, arith}
use Rattle.std.proofs.lemmas.List.{take_all}
use Rattle.std.proofs.lemmas.List.Sums.{sum_by_more}
use Rattle.plain_board.proofs.Rows.{enables_by, sum_by-rows_on}
use Rattle.plain_board.proofs.counts.enables.Goals as goal
use Rattle.plain_board.proofs.counts.enables.Goals.{then-eq, else-eq}

one_more : (old new by i : ℕ) → new ≡ old + by → by ≤ 4294967295 → old ≤ 4294967295 * i → new ≤ 4294967295 * (i + 1)
one_more old new by i is small bound = omega arith

no_more : (old new i : ℕ) → new ≡ old → old ≤ 4294967295 * i → new ≤ 4294967295 * (i + 1)
no_more old new i is bound = omega arith

pub loop-on-preserved : goal.loop-on-preserved
loop-on-preserved c =
    let more = rw (← c.loop-on-item.is) at (sum_by_more (enables_by c.args.id.0) c.as_slice-on-items.result.now c.loop-on.on-index c.loop-on-item.result c.loop-on-test.true) in
    elim c.if-eq.branch [
      | then-eq w ↦
          let here : enables_by c.args.id.0 c.loop-on-item.result ≡ w.from-sum.result = rw (← c.eq.ensures, w.if-eq.true) (sym w.from-sum.ensures) in
          record {
            added = w.sum-is ∙ rw (more, here, ← c.loop-on.invariant.added) refl;
            bound = one_more _ _ w.from-sum.result c.loop-on.on-index w.sum-is (omega arith) c.loop-on.invariant.bound;
          }
      | else-eq w ↦
          let here : enables_by c.args.id.0 c.loop-on-item.result ≡ 0 = rw (← c.eq.ensures, w.if-eq.false) refl in
          record {
            added = w.sum-is ∙ rw (more, here, ← c.loop-on.invariant.added) (sym (add-zero _));
            bound = no_more _ _ c.loop-on.on-index w.sum-is c.loop-on.invariant.bound;
          }
    ]

pub returns-clause-value : goal.returns-clause-value
returns-clause-value c =
    let all = take_all c.loop-on.on-index c.as_slice-on-items.result.now c.loop-on-test.false in
    rw (c.loop-on.invariant.added, all, c.as_slice-on-items.ensures) (sym (sum_by-rows_on c.args.id.0 c.args.plain.now.handles))
