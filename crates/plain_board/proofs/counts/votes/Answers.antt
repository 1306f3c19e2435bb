use Rattle.std.proofs.Common.{◌≡◌, ℕ, ◌+◌, ◌≤◌, ◌&&◌, ◌==◌, Bool, Option, Some, None, refl, ap, sym, length, arith, ◌∙◌}
use Rattle.std.specs.Option.{option_eq}
use Rattle.std.proofs.lemmas.List.{take_all}
use Rattle.std.proofs.lemmas.List.Sums.{count_by_more_yes, count_by_more_no}
use Rattle.board.specs.declared.rail.Rail.{Rail}
use Rattle.board.specs.declared.rail_id.RailId.{RailId}
use Rattle.board.specs.Rail.{is_on}
use Rattle.plain_board.specs.Counts.{is_supply}
use Rattle.plain_board.proofs.counts.votes.Goals as goal
use Rattle.plain_board.proofs.counts.votes.Goals.{then-eq+then-is_on, else-eq, else-eq-via-then-eq+else-is_on, else-eq-via-else-eq}

is_supply-eq : (supply : Option RailId) (id : RailId) → option_eq (λ a b. a.0 == b.0) supply (Some id) ≡ is_supply id.0 supply
is_supply-eq None id = refl
is_supply-eq (Some s) id = refl

one_more : (old new i : ℕ) → new ≡ old + 1 → old ≤ i → new ≤ i + 1
one_more old new i is bound = omega arith

no_more : (old new i : ℕ) → new ≡ old → old ≤ i → new ≤ i + 1
no_more old new i is bound = omega arith

pub is_on-requires : goal.is_on-requires
is_on-requires c =
    let within = rw c.as_slice-rail-items.ensures at c.loop-rail-test.true in
    let sound = c.requires.valid.sound.rails _ c.rail-item.result within in
    rw (c.requires.inv.kept.regs, c.rail-item.is, c.as_slice-rail-items.ensures) sound.desc.placed

pub overflow_add-count : goal.overflow_add-count
overflow_add-count c =
    let all = ap length c.as_slice-rail-items.ensures in
    omega (arith, all, c.requires.valid.sound.few, c.loop-rail.invariant.bound, c.loop-rail-test.true)

pub loop-rail-preserved : goal.loop-rail-preserved
loop-rail-preserved c =
    let p : Rail → Bool = λ rail. is_supply c.args.id.0 rail.supply && is_on rail c.args.plain.now.regs in
    let supplied = c.eq.ensures ∙ is_supply-eq c.rail-item.result.supply c.args.id in
    let yes = count_by_more_yes p c.as_slice-rail-items.result.now c.loop-rail.rail-index c.rail-item.result c.loop-rail-test.true in
    let no = count_by_more_no p c.as_slice-rail-items.result.now c.loop-rail.rail-index c.rail-item.result c.loop-rail-test.true in
    elim c.if-eq.branch [
      | then-eq+then-is_on w ↦
          record {
            counted = w.count-is ∙ ap (λ n. n + 1) c.loop-rail.invariant.counted ∙ sym (yes (rw (← c.rail-item.is, ← supplied, w.if-eq.true, ← w.is_on.ensures) w.if-is_on.true));
            bound = one_more _ _ _ w.count-is c.loop-rail.invariant.bound;
          }
      | else-eq w ↦
          record {
            counted = w.count-is ∙ c.loop-rail.invariant.counted ∙ sym (no (elim w.else-eq.branch [
              | else-eq-via-then-eq+else-is_on w' ↦ rw (← c.rail-item.is, ← supplied, w'.if-eq.true, ← w'.is_on.ensures) w'.if-is_on.false
              | else-eq-via-else-eq w' ↦ rw (← c.rail-item.is, ← supplied, w'.if-eq.false) refl
            ]));
            bound = no_more _ _ _ w.count-is c.loop-rail.invariant.bound;
          }
    ]

pub returns-clause-value : goal.returns-clause-value
returns-clause-value c =
    let all = take_all c.loop-rail.rail-index c.as_slice-rail-items.result.now c.loop-rail-test.false in
    rw (c.loop-rail.invariant.counted, all, c.as_slice-rail-items.ensures) refl
