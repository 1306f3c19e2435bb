-- One more range of a table: its picks and its count.
use Rattle.std.proofs.Common.{◌≡◌, ℕ, ◌+◌, ◌<◌, ◌≤◌, Bool, true, false, cond, eqb, ltb, leb, ◌&&◌, ◌||◌, List, [], ◌∷◌, Option, None, Some, length, get_or, take, refl, subst, arith}
use Rattle.std.proofs.lemmas.Bool.{leb-true, le-leb}
use Rattle.std.proofs.lemmas.Bool.Decides.{nat_tests}
use Rattle.std.proofs.lemmas.List.{take_more, take_all, get_or-take, get_or_default, length-take}
use Rattle.linear_range.specs.declared.linear_range.LinearRange.{LinearRange}
use Rattle.linear_range.specs.LinearRange.{IsSound}
use Rattle.linear_range.specs.Values.{values, pick_high, pick_low}
use Rattle.linear_range.specs.Pick.{lesser_of, greater_of}
use Rattle.linear_range.proofs.Picks.{upwards, downwards, upwards_order, downwards_order, BestOf, IsUnion, union_swap, best_none, best_left, best_both}
use Rattle.linear_range.proofs.Tables.{HasValue, IsApart, table_union, pick_high-best, pick_low-best, pick_high-is, pick_low-is}

-- the test of `lesser_of`
abbrev lesser_test : ℕ × ℕ → ℕ × ℕ → Bool
lesser_test p q = ltb q.1 p.1 || (eqb q.1 p.1 && ltb q.0 p.0)

-- what it tells where it passes, and where it fails
lesser_yes : (p q : ℕ × ℕ) → lesser_test p q ≡ true → (q.1 ≤ p.1) × (p.1 ≤ q.1 → q.0 ≤ p.0)
lesser_yes p q h = grind (arith, nat_tests)

lesser_no : (p q : ℕ × ℕ) → lesser_test p q ≡ false → (p.1 ≤ q.1) × (q.1 ≤ p.1 → p.0 ≤ q.0)
lesser_no p q h = grind (arith, nat_tests)

abbrev greater_test : ℕ × ℕ → ℕ × ℕ → Bool
greater_test p q = ltb p.1 q.1 || (eqb q.1 p.1 && ltb q.0 p.0)

greater_yes : (p q : ℕ × ℕ) → greater_test p q ≡ true → (p.1 ≤ q.1) × (q.1 ≤ p.1 → q.0 ≤ p.0)
greater_yes p q h = grind (arith, nat_tests)

greater_no : (p q : ℕ × ℕ) → greater_test p q ≡ false → (q.1 ≤ p.1) × (p.1 ≤ q.1 → p.0 ≤ q.0)
greater_no p q h = grind (arith, nat_tests)

module _ (u : ℕ) {L R M : ℕ → ℕ → Type 0} (union : IsUnion L R M) where
  lesser_best : (o o' : Option (ℕ × ℕ)) → BestOf (λ uv. leb u uv) upwards L o
      → BestOf (λ uv. leb u uv) upwards R o' → BestOf (λ uv. leb u uv) upwards M (lesser_of o o')
  lesser_best None None a b = best_none (λ uv. leb u uv) upwards upwards_order union a b
  lesser_best None (Some q) a b = best_left (λ uv. leb u uv) upwards upwards_order (union_swap union) q b a
  lesser_best (Some p) None a b = best_left (λ uv. leb u uv) upwards upwards_order union p a b
  lesser_best (Some p) (Some q) a b = by_test (lesser_test p q) refl
    where
      by_test : (t : Bool) → lesser_test p q ≡ t → BestOf (λ uv. leb u uv) upwards M (Some (cond t q p))
      by_test true e =
          let h = lesser_yes p q e in
          best_both (λ uv. leb u uv) upwards upwards_order (union_swap union) q p b a
          (le-leb _ _ h.0) (λ k. h.1 (leb-true _ _ k))
      by_test false e =
          let h = lesser_no p q e in
          best_both (λ uv. leb u uv) upwards upwards_order union p q a b
          (le-leb _ _ h.0) (λ k. h.1 (leb-true _ _ k))

  greater_best : (o o' : Option (ℕ × ℕ)) → BestOf (λ uv. leb uv u) downwards L o
      → BestOf (λ uv. leb uv u) downwards R o' → BestOf (λ uv. leb uv u) downwards M (greater_of o o')
  greater_best None None a b = best_none (λ uv. leb uv u) downwards downwards_order union a b
  greater_best None (Some q) a b = best_left (λ uv. leb uv u) downwards downwards_order (union_swap union) q b a
  greater_best (Some p) None a b = best_left (λ uv. leb uv u) downwards downwards_order union p a b
  greater_best (Some p) (Some q) a b = by_test (greater_test p q) refl
    where
      by_test : (t : Bool) → greater_test p q ≡ t → BestOf (λ uv. leb uv u) downwards M (Some (cond t q p))
      by_test true e =
          let h = greater_yes p q e in
          best_both (λ uv. leb uv u) downwards downwards_order (union_swap union) q p b a
          (le-leb _ _ h.0) (λ k. h.1 (leb-true _ _ k))
      by_test false e =
          let h = greater_no p q e in
          best_both (λ uv. leb uv u) downwards downwards_order union p q a b
          (le-leb _ _ h.0) (λ k. h.1 (leb-true _ _ k))

-- each range of a table is apart from those before it
pub apart_from_earlier : (n : ℕ) (rs : List LinearRange) (i : ℕ) (d : LinearRange)
    → IsSound n rs → i < length rs → IsApart (get_or rs i d) (take i rs)
apart_from_earlier n rs i d sound h k e below =
    let near : k < i = omega (arith, length-take i rs) in
    rw (get_or-take i rs k e near, get_or_default rs i d e h) (sound.apart k i e near h)

module _ (n : ℕ) (rs : List LinearRange) (u : ℕ) (i : ℕ) (d : LinearRange) (sound : IsSound n rs) (h : i < length rs) where
  union : IsUnion (HasValue (take i rs)) (HasValue (get_or rs i d ∷ [])) (HasValue (take (i + 1) rs))
  union = rw (take_more rs i d h) (table_union (take i rs) (get_or rs i d) (apart_from_earlier n rs i d sound h))

  pub lesser_more : (o o' : Option (ℕ × ℕ)) → BestOf (λ uv. leb u uv) upwards (HasValue (take i rs)) o
      → o' ≡ pick_high (values (get_or rs i d ∷ [])) u
      → BestOf (λ uv. leb u uv) upwards (HasValue (take (i + 1) rs)) (lesser_of o o')
  lesser_more o o' b e = lesser_best u union o o' b (rw e (pick_high-best (get_or rs i d ∷ []) u))

  pub greater_more : (o o' : Option (ℕ × ℕ)) → BestOf (λ uv. leb uv u) downwards (HasValue (take i rs)) o
      → o' ≡ pick_low (values (get_or rs i d ∷ [])) u
      → BestOf (λ uv. leb uv u) downwards (HasValue (take (i + 1) rs)) (greater_of o o')
  greater_more o o' b e = greater_best u union o o' b (rw e (pick_low-best (get_or rs i d ∷ []) u))

-- at the end of the ranges their pick is the table's
module _ (rs : List LinearRange) (u : ℕ) (i : ℕ) (h : length rs ≤ i) where
  pub lesser_all : (o : Option (ℕ × ℕ)) → BestOf (λ uv. leb u uv) upwards (HasValue (take i rs)) o
      → o ≡ pick_high (values rs) u
  lesser_all o b = pick_high-is rs u o (subst (λ t. BestOf (λ uv. leb u uv) upwards (HasValue t) o) (take_all i rs h) b)

  pub greater_all : (o : Option (ℕ × ℕ)) → BestOf (λ uv. leb uv u) downwards (HasValue (take i rs)) o
      → o ≡ pick_low (values rs) u
  greater_all o b = pick_low-is rs u o (subst (λ t. BestOf (λ uv. leb uv u) downwards (HasValue t) o) (take_all i rs h) b)
