-- The picks of one range, by its formulas.
use Rattle.std.proofs.Common.{◌≡◌, ℕ, ◌+◌, ◌-◌, ◌*◌, ◌/◌, ◌<◌, ◌≤◌, Bool, [], ◌∷◌, Option, None, Some, refl, sym, ◌∙◌, ap, inl, inr, arith}
use Rattle.std.proofs.Math.Nat.{mul-le-mul_right, le_of_mul-le-mul_right, lt_of_mul-lt-mul_right, div-mul-le_self, add-sub_cancel_left}
use Rattle.std.proofs.lemmas.Grind.{div_ceil_times}
use Rattle.std.proofs.lemmas.Nat.{le-div}
use Rattle.std.proofs.lemmas.Bool.{le-leb, lt-leb, leb-true, cases_eq}
use Rattle.std.specs.Int.{div_ceil}
use Rattle.std.specs.Option.{option_map}
use Rattle.linear_range.specs.declared.linear_range.LinearRange.{LinearRange}
use Rattle.linear_range.specs.LinearRange.{IsFitting, greatest_of}
use Rattle.linear_range.specs.Values.{value_in, values, pick_high, pick_low}
use Rattle.linear_range.proofs.Picks.{BestOf}
use Rattle.linear_range.proofs.Tables.{IsMember, HasValue, value_of-single, value_in-member, pick_high-best, pick_low-best, member_from_single, single_from_member, pick_high-is, pick_low-is}

div_ceil-least : (d s j : ℕ) → 0 < s → d ≤ j * s → div_ceil d s ≤ j
div_ceil-least d s j pos h =
    let below : div_ceil d s * s < (j + 1) * s = omega (arith, (div_ceil_times d s pos).1, h) in
    let less : div_ceil d s < j + 1 = lt_of_mul-lt-mul_right s below in
    omega arith

module _ (r : LinearRange) where
  -- the steps from the range's first selector
  abbrev steps_to : ℕ → ℕ
  steps_to sel = sel - r.min_sel

  member_low : (sel uv : ℕ) → IsMember r sel uv → r.min ≤ uv
  member_low sel uv m = omega (arith, m.value)

  pub member_high : (sel uv : ℕ) → IsMember r sel uv → uv ≤ greatest_of r
  member_high sel uv m =
      let less : steps_to sel ≤ r.max_sel - r.min_sel = omega (arith, m.to) in
      omega (arith, m.value, mul-le-mul_right r.step less)

  -- the selector k steps from the first
  member_at : (k : ℕ) → k ≤ r.max_sel - r.min_sel → r.min_sel ≤ r.max_sel
      → HasValue (r ∷ []) (r.min_sel + k) (r.min + k * r.step)
  member_at k h fit = single_from_member r (r.min_sel + k) (r.min + k * r.step) (record {
    from = omega arith;
    to = omega arith;
    value = rw add-sub_cancel_left refl;
  })

  -- a selector of the same value is no fewer steps away
  steps_first : (k sel : ℕ) → 0 < r.step → HasValue (r ∷ []) sel (r.min + k * r.step) → r.min_sel + k ≤ sel
  steps_first k sel pos h =
      let m = member_from_single r sel (r.min + k * r.step) h in
      let same : k * r.step ≤ steps_to sel * r.step = omega (arith, m.value) in
      let less : k ≤ steps_to sel = le_of_mul-le-mul_right same pos in
      omega (arith, m.from)

  -- up to the greatest value there are no more steps than selectors
  pub steps_within : (u : ℕ) → 0 < r.step → u ≤ greatest_of r → div_ceil (u - r.min) r.step ≤ r.max_sel - r.min_sel
  steps_within u pos within = div_ceil-least (u - r.min) r.step (r.max_sel - r.min_sel) pos (omega arith)

  pub whole_steps_within : (u : ℕ) → 0 < r.step → u ≤ greatest_of r → (u - r.min) / r.step ≤ r.max_sel - r.min_sel
  whole_steps_within u pos within =
      let whole : (u - r.min) / r.step * r.step ≤ (r.max_sel - r.min_sel) * r.step = omega (arith, div-mul-le_self (u - r.min) r.step) in
      le_of_mul-le-mul_right whole pos

  value_at : (ok : ℕ → Bool) (le : ℕ → ℕ → Bool) (sel uv : ℕ) (o : Option (ℕ × ℕ)) → Some (sel, uv) ≡ o
      → BestOf ok le (HasValue (r ∷ [])) o → value_in r sel ≡ option_map (λ p. p.1) o
  value_at ok le sel uv None e b = cc
  value_at ok le sel uv (Some p) e b =
      let value : value_in r p.0 ≡ Some p.1 = sym (value_of-single r p.0) ∙ b.has in
      let same : (sel, uv) ≡ p = cc in
      rw (ap (λ q. q.0) same) value

  module _ (fit : IsFitting r) (u : ℕ) where
    pub high_above : greatest_of r < u → None ≡ pick_high (values (r ∷ [])) u
    high_above h = pick_high-is (r ∷ []) u None
        (λ sel uv m. lt-leb u uv (omega (arith, member_high sel uv (member_from_single r sel uv m))))

    pub high_below : u ≤ r.min → Some (r.min_sel, r.min) ≡ pick_high (values (r ∷ [])) u
    high_below h = pick_high-is (r ∷ []) u (Some (r.min_sel, r.min)) (record {
      has = single_from_member r r.min_sel r.min (record { from = omega arith; to = fit.0; value = omega (arith, sub_first) });
      allowed = le-leb _ _ h;
      best = λ sel uv m k. le-leb _ _ (member_low sel uv (member_from_single r sel uv m));
      first = λ sel m. (member_from_single r sel r.min m).from;
    })
      where
        sub_first : (r.min_sel - r.min_sel) * r.step ≡ 0
        sub_first = grind arith

    pub high_inside : r.min ≤ u → u ≤ greatest_of r → 0 < r.step
        → Some (r.min_sel + div_ceil (u - r.min) r.step, r.min + div_ceil (u - r.min) r.step * r.step)
        ≡ pick_high (values (r ∷ [])) u
    high_inside low high pos = pick_high-is (r ∷ []) u (Some (r.min_sel + k, r.min + k * r.step)) (record {
      has = member_at k (div_ceil-least (u - r.min) r.step (r.max_sel - r.min_sel) pos (omega arith)) fit.0;
      allowed = le-leb _ _ (omega (arith, (div_ceil_times (u - r.min) r.step pos).0));
      best = λ sel uv m h. le-leb _ _ (least sel uv (member_from_single r sel uv m) (leb-true u uv h));
      first = λ sel m. steps_first k sel pos m;
    })
      where
        k : ℕ
        k = div_ceil (u - r.min) r.step

        least : (sel uv : ℕ) → IsMember r sel uv → u ≤ uv → r.min + k * r.step ≤ uv
        least sel uv m h =
            let far : u - r.min ≤ steps_to sel * r.step = omega (arith, m.value, h) in
            let less : k ≤ steps_to sel = div_ceil-least (u - r.min) r.step (steps_to sel) pos far in
            omega (arith, m.value, mul-le-mul_right r.step less)

    pub low_below : u < r.min → None ≡ pick_low (values (r ∷ [])) u
    low_below h = pick_low-is (r ∷ []) u None
        (λ sel uv m. lt-leb uv u (omega (arith, member_low sel uv (member_from_single r sel uv m))))

    pub low_flat : r.min ≤ u → r.step ≡ 0 → Some (r.min_sel, r.min) ≡ pick_low (values (r ∷ [])) u
    low_flat h flat = pick_low-is (r ∷ []) u (Some (r.min_sel, r.min)) (record {
      has = single_from_member r r.min_sel r.min (record { from = omega arith; to = fit.0; value = rw flat (omega arith) });
      allowed = le-leb _ _ h;
      best = λ sel uv m k. le-leb _ _ (most sel uv (member_from_single r sel uv m));
      first = λ sel m. (member_from_single r sel r.min m).from;
    })
      where
        most : (sel uv : ℕ) → IsMember r sel uv → uv ≤ r.min
        most sel uv m = let v : uv ≡ r.min + steps_to sel * 0 = rw flat at m.value in omega arith

    pub low_above : greatest_of r ≤ u → 0 < r.step
        → Some (r.max_sel, greatest_of r) ≡ pick_low (values (r ∷ [])) u
    low_above h pos = pick_low-is (r ∷ []) u (Some (r.max_sel, greatest_of r)) (record {
      has = single_from_member r r.max_sel (greatest_of r) (record { from = fit.0; to = omega arith; value = refl });
      allowed = le-leb _ _ h;
      best = λ sel uv m k. le-leb _ _ (member_high sel uv (member_from_single r sel uv m));
      first = λ sel m. let first : r.min_sel + (r.max_sel - r.min_sel) ≤ sel = steps_first (r.max_sel - r.min_sel) sel pos m in omega (arith, fit.0);
    })

    pub low_inside : r.min ≤ u → u ≤ greatest_of r → 0 < r.step
        → Some (r.min_sel + (u - r.min) / r.step, r.min + (u - r.min) / r.step * r.step)
        ≡ pick_low (values (r ∷ [])) u
    low_inside low high pos = pick_low-is (r ∷ []) u (Some (r.min_sel + k, r.min + k * r.step)) (record {
      has = member_at k within fit.0;
      allowed = le-leb _ _ (omega (arith, div-mul-le_self (u - r.min) r.step));
      best = λ sel uv m h. le-leb _ _ (most sel uv (member_from_single r sel uv m) (leb-true uv u h));
      first = λ sel m. steps_first k sel pos m;
    })
      where
        k : ℕ
        k = (u - r.min) / r.step

        within : k ≤ r.max_sel - r.min_sel
        within =
            let far : k * r.step ≤ (r.max_sel - r.min_sel) * r.step = omega (arith, div-mul-le_self (u - r.min) r.step) in
            le_of_mul-le-mul_right far pos

        most : (sel uv : ℕ) → IsMember r sel uv → uv ≤ u → uv ≤ r.min + k * r.step
        most sel uv m h =
            let near : steps_to sel * r.step ≤ u - r.min = omega (arith, m.value, h) in
            let less : steps_to sel ≤ k = le-div (steps_to sel) (u - r.min) r.step pos near in
            omega (arith, m.value, mul-le-mul_right r.step less)

    -- the value of a pick's selector is the pick's
    pub value_at_high : (sel uv : ℕ) → Some (sel, uv) ≡ pick_high (values (r ∷ [])) u
        → value_in r sel ≡ option_map (λ p. p.1) (pick_high (values (r ∷ [])) u)
    value_at_high sel uv e = value_at _ _ sel uv (pick_high (values (r ∷ [])) u) e (pick_high-best (r ∷ []) u)

    pub value_at_low : (sel uv : ℕ) → Some (sel, uv) ≡ pick_low (values (r ∷ [])) u
        → value_in r sel ≡ option_map (λ p. p.1) (pick_low (values (r ∷ [])) u)
    value_at_low sel uv e = value_at _ _ sel uv (pick_low (values (r ∷ [])) u) e (pick_low-best (r ∷ []) u)

    -- at step 0 the last selector has the value of the first
    pub flat_last : r.step ≡ 0 → value_in r r.max_sel ≡ Some r.min
    flat_last flat = value_in-member r r.max_sel r.min (record { from = fit.0; to = omega arith; value = rw flat (omega arith) })

    pub flat_greatest : r.step ≡ 0 → greatest_of r ≡ r.min
    flat_greatest flat = rw flat (omega arith)

    -- above the greatest value the last selector has the pick's value, whatever the step
    pub last_at_low : greatest_of r < u
        → value_in r r.max_sel ≡ option_map (λ p. p.1) (pick_low (values (r ∷ [])) u)
    last_at_low h = elim (cases_eq r.step 0) [
      | inl flat ↦ flat_last flat ∙ ap (option_map (λ p. p.1)) (low_flat (omega (arith, flat_greatest flat)) flat)
      | inr rises ↦ value_at_low r.max_sel (greatest_of r) (low_above (omega arith) (omega arith))
    ]
