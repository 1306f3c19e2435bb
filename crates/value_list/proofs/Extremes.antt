-- The picks among pairs whose selectors rise are the least and the greatest.
use Rattle.std.proofs.Common.{◌≡◌, ℕ, ◌<◌, ◌≤◌, true, false, leb, List, Option, None, Some, arith}
use Rattle.std.proofs.lemmas.Bool.{leb-true, leb-false, le-leb}
use Rattle.std.proofs.lemmas.List.Elements.{All-weaker}
use Rattle.std.specs.Prelude.{MatchOption}
use Rattle.std.specs.List.{All, AllPairs}
use Rattle.value_list.specs.Picks.{pick_high, pick_low}
use Rattle.value_list.specs.Laws.{SelectorsRise, PicksHigh, PicksLow, IsHighPick, IsLowPick}
use Rattle.value_list.proofs.Best.{IsPick, high_best, low_best}

-- the one pair's selector isn't above the other's
abbrev Before : ℕ × ℕ → ℕ × ℕ → Type 0
Before p q = p.0 ≤ q.0

before : (ps : List (ℕ × ℕ)) → SelectorsRise ps → AllPairs Before ps
before ps rising i j d h k = omega (arith, rising i j d h k)

high : (ps : List (ℕ × ℕ)) (u : ℕ) (o : Option (ℕ × ℕ)) → IsPick (leb u) leb Before ps o → MatchOption o (All (λ q. q.1 < u) ps) (IsHighPick ps u)
high ps u None none = All-weaker (λ q. leb u q.1 ≡ false) (λ q. q.1 < u) (λ q is. leb-false u q.1 is) ps none
high ps u (Some p) best = record {
  among = best.among;
  not_below = leb-true u p.1 best.within;
  least = All-weaker (λ q. leb u q.1 ≡ true → leb p.1 q.1 ≡ true) (λ q. u ≤ q.1 → p.1 ≤ q.1) (λ q is inside. leb-true p.1 q.1 (is (le-leb u q.1 inside))) ps best.best;
  first = best.first;
}

low : (ps : List (ℕ × ℕ)) (u : ℕ) (o : Option (ℕ × ℕ)) → IsPick (λ v. leb v u) (λ v w. leb w v) Before ps o → MatchOption o (All (λ q. u < q.1) ps) (IsLowPick ps u)
low ps u None none = All-weaker (λ q. leb q.1 u ≡ false) (λ q. u < q.1) (λ q is. leb-false q.1 u is) ps none
low ps u (Some p) best = record {
  among = best.among;
  not_above = leb-true p.1 u best.within;
  greatest = All-weaker (λ q. leb q.1 u ≡ true → leb q.1 p.1 ≡ true) (λ q. q.1 ≤ u → q.1 ≤ p.1) (λ q is inside. leb-true q.1 p.1 (is (le-leb q.1 u inside))) ps best.best;
  first = best.first;
}

pub picks_high : (ps : List (ℕ × ℕ)) → SelectorsRise ps → PicksHigh ps
picks_high ps rising u = high ps u (pick_high ps u) (high_best Before (λ p. omega arith) u ps (before ps rising))

pub picks_low : (ps : List (ℕ × ℕ)) → SelectorsRise ps → PicksLow ps
picks_low ps rising u = low ps u (pick_low ps u) (low_best Before (λ p. omega arith) u ps (before ps rising))
