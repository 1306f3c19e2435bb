-- The pairs of a list from a selector on, by which its picks are found from the last to the first.
use Rattle.std.proofs.Common.{◌≡◌, ℕ, ◌-◌, ◌<◌, ◌≤◌, List, ◌∷◌, Some, length, get_or, drop, refl, ap, ◌∙◌, suc, add-one, drop-cons, arith}
use Rattle.std.specs.List.{enumerate_from}
use Rattle.std.proofs.lemmas.Bool.{le-leb, lt-leb}
use Rattle.voltage_table.specs.Values.{lesser_pair, greater_pair, pick_high, pick_low}

-- the pairs from selector i on
abbrev pub pairs_from : List ℕ → ℕ → List (ℕ × ℕ)
pairs_from xs i = enumerate_from i (drop i xs)

module _ (xs : List ℕ) (u : ℕ) where
  pairs_from-at : (i : ℕ) → i < length xs → pairs_from xs i ≡ (i, get_or xs i 0) ∷ pairs_from xs (suc i)
  pairs_from-at i within = rw (drop-cons xs i 0 within, add-one) refl

  pairs_from-before : (i : ℕ) → 0 < i → i ≤ length xs → pairs_from xs (i - 1) ≡ (i - 1, get_or xs (i - 1) 0) ∷ pairs_from xs i
  pairs_from-before i pos within =
      let next : suc (i - 1) ≡ i = omega arith in
      pairs_from-at (i - 1) (omega arith) ∙ ap (λ k. (i - 1, get_or xs (i - 1) 0) ∷ pairs_from xs k) next

  pub pairs_from-first : (i : ℕ) → i ≤ 0 → pairs_from xs i ≡ enumerate_from 0 xs
  pairs_from-first i none = let first : i ≡ 0 = omega arith in rw first refl

  pub pick_high-before : (i : ℕ) → 0 < i → i ≤ length xs → u ≤ get_or xs (i - 1) 0
      → pick_high (pairs_from xs (i - 1)) u ≡ Some (lesser_pair (i - 1, get_or xs (i - 1) 0) (pick_high (pairs_from xs i) u))
  pick_high-before i pos within here = rw (pairs_from-before i pos within, le-leb u (get_or xs (i - 1) 0) here) refl

  pub pick_high-skip : (i : ℕ) → 0 < i → i ≤ length xs → get_or xs (i - 1) 0 < u → pick_high (pairs_from xs (i - 1)) u ≡ pick_high (pairs_from xs i) u
  pick_high-skip i pos within here = rw (pairs_from-before i pos within, lt-leb u (get_or xs (i - 1) 0) here) refl

  pub pick_low-before : (i : ℕ) → 0 < i → i ≤ length xs → get_or xs (i - 1) 0 ≤ u
      → pick_low (pairs_from xs (i - 1)) u ≡ Some (greater_pair (i - 1, get_or xs (i - 1) 0) (pick_low (pairs_from xs i) u))
  pick_low-before i pos within here = rw (pairs_from-before i pos within, le-leb (get_or xs (i - 1) 0) u here) refl

  pub pick_low-skip : (i : ℕ) → 0 < i → i ≤ length xs → u < get_or xs (i - 1) 0 → pick_low (pairs_from xs (i - 1)) u ≡ pick_low (pairs_from xs i) u
  pick_low-skip i pos within here = rw (pairs_from-before i pos within, lt-leb (get_or xs (i - 1) 0) u here) refl
