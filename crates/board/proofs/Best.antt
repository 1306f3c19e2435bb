-- A pick among pairs is the nearest of their values.
use Rattle.std.proofs.Common.{◌≡◌, ℕ, zero, suc, ◌<◌, ◌≤◌, true, false, leb, List, [], ◌∷◌, Option, Some, None, sym, ap, subst, map, arith}
use Rattle.std.specs.Prelude.{All, Contains, MatchOption}
use Rattle.std.specs.Option.{option_map}
use Rattle.std.proofs.lemmas.Bool.{leb-true, leb-false, le-leb}
use Rattle.std.proofs.lemmas.List.Elements.{All-map, All-weaker}
use Rattle.linear_range.specs.declared.pick.Pick.{Pick}
use Rattle.linear_range.specs.Pick.{pair_of}
use Rattle.linear_range.specs.Values.{pick_high, pick_low}
use Rattle.value_list.proofs.Best.{IsPick, high_best, low_best}
use Rattle.board.specs.Fields.{IsLeastAbove, IsGreatestBelow}

-- the value of a pair of the list
value_among : (ps : List (ℕ × ℕ)) (p : ℕ × ℕ) → Contains ps p → Contains (map (λ q. q.1) ps) p.1
value_among [] p (k, within, is) = absurd (omega arith)
value_among (q ∷ qs) p (zero, within, is) = (0, omega arith, ap (λ r. r.1) is)
value_among (q ∷ qs) p (suc k, within, is) = let there = value_among qs p (k, omega arith, is) in (suc there.0, omega (arith, there.1), there.2)

-- pairs in any order
abbrev Anywhere : ℕ × ℕ → ℕ × ℕ → Type 0
Anywhere p q = Unit {0}

-- the least value not below u, where there is one
abbrev high_law : ℕ → List (ℕ × ℕ) → Option (ℕ × ℕ) → Type 0
high_law u ps o = MatchOption o (All (λ v. v < u) (map (λ p. p.1) ps)) (λ p. IsLeastAbove (map (λ p. p.1) ps) u p.1)

high_value : (u : ℕ) (ps : List (ℕ × ℕ)) (o : Option (ℕ × ℕ)) → IsPick (leb u) leb Anywhere ps o → high_law u ps o
high_value u ps None none = All-map (λ v. v < u) (λ p. p.1) ps (All-weaker (λ q. leb u q.1 ≡ false) (λ q. q.1 < u) (λ q is. leb-false u q.1 is) ps none)
high_value u ps (Some p) best = record {
  among = value_among ps p best.among;
  not_below = leb-true u p.1 best.within;
  no_lesser = All-map (λ v. u ≤ v → p.1 ≤ v) (λ q. q.1) ps
      (All-weaker (λ q. leb u q.1 ≡ true → leb p.1 q.1 ≡ true) (λ q. u ≤ q.1 → p.1 ≤ q.1) (λ q is inside. leb-true p.1 q.1 (is (le-leb u q.1 inside))) ps best.best);
}

high_pairs : (u : ℕ) (ps : List (ℕ × ℕ)) → high_law u ps (pick_high ps u)
high_pairs u ps = high_value u ps (pick_high ps u) (high_best Anywhere (λ p. tt) u ps (λ i j d before within. tt))

pub high_nearest : (u : ℕ) (ps : List (ℕ × ℕ)) (o : Option Pick) → option_map pair_of o ≡ pick_high ps u
    → MatchOption o (All (λ v. v < u) (map (λ p. p.1) ps)) (λ pick. IsLeastAbove (map (λ p. p.1) ps) u pick.uv)
high_nearest u ps None is = subst (high_law u ps) (sym is) (high_pairs u ps)
high_nearest u ps (Some pick) is = subst (high_law u ps) (sym is) (high_pairs u ps)

-- the greatest value not above u, where there is one
abbrev low_law : ℕ → List (ℕ × ℕ) → Option (ℕ × ℕ) → Type 0
low_law u ps o = MatchOption o (All (λ v. u < v) (map (λ p. p.1) ps)) (λ p. IsGreatestBelow (map (λ p. p.1) ps) u p.1)

low_value : (u : ℕ) (ps : List (ℕ × ℕ)) (o : Option (ℕ × ℕ)) → IsPick (λ v. leb v u) (λ v w. leb w v) Anywhere ps o → low_law u ps o
low_value u ps None none = All-map (λ v. u < v) (λ p. p.1) ps (All-weaker (λ q. leb q.1 u ≡ false) (λ q. u < q.1) (λ q is. leb-false q.1 u is) ps none)
low_value u ps (Some p) best = record {
  among = value_among ps p best.among;
  not_above = leb-true p.1 u best.within;
  no_greater = All-map (λ v. v ≤ u → v ≤ p.1) (λ q. q.1) ps
      (All-weaker (λ q. leb q.1 u ≡ true → leb q.1 p.1 ≡ true) (λ q. q.1 ≤ u → q.1 ≤ p.1) (λ q is inside. leb-true q.1 p.1 (is (le-leb q.1 u inside))) ps best.best);
}

low_pairs : (u : ℕ) (ps : List (ℕ × ℕ)) → low_law u ps (pick_low ps u)
low_pairs u ps = low_value u ps (pick_low ps u) (low_best Anywhere (λ p. tt) u ps (λ i j d before within. tt))

pub low_nearest : (u : ℕ) (ps : List (ℕ × ℕ)) (o : Option Pick) → option_map pair_of o ≡ pick_low ps u
    → MatchOption o (All (λ v. u < v) (map (λ p. p.1) ps)) (λ pick. IsGreatestBelow (map (λ p. p.1) ps) u pick.uv)
low_nearest u ps None is = subst (low_law u ps) (sym is) (low_pairs u ps)
low_nearest u ps (Some pick) is = subst (low_law u ps) (sym is) (low_pairs u ps)
