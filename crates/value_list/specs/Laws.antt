-- What holds of the picks from a list of pairs (selector, µV) whose selectors rise.
use Rattle.std.specs.Prelude.{◌≡◌, ℕ, ◌^◌, ◌<◌, ◌≤◌, List, MatchOption}
use Rattle.std.specs.List.{All, AllPairs, Contains}
use Rattle.value_list.specs.Picks.{pick_high, pick_low}

-- the selectors rise
abbrev pub SelectorsRise : List (ℕ × ℕ) → Type 0
SelectorsRise ps = AllPairs (λ p q. p.0 < q.0) ps

-- each selector is a `u16`, and each value a `u32`
abbrev pub IsBounded : List (ℕ × ℕ) → Type 0
IsBounded ps = All (λ p. (p.0 < 2 ^ 16) × (p.1 < 2 ^ 32)) ps

-- p is one of the pairs, not below u; no other pair that is not below u has fewer µV, and p is the
-- first with its µV
pub record IsHighPick (ps : List (ℕ × ℕ)) (u : ℕ) (p : ℕ × ℕ) : Type 0 where
  pub among : Contains ps p
  pub not_below : u ≤ p.1
  pub least : All (λ q. u ≤ q.1 → p.1 ≤ q.1) ps
  pub first : All (λ q. q.1 ≡ p.1 → p.0 ≤ q.0) ps

-- p is one of the pairs, not above u; no other pair that is not above u has more µV, and p is the
-- first with its µV
pub record IsLowPick (ps : List (ℕ × ℕ)) (u : ℕ) (p : ℕ × ℕ) : Type 0 where
  pub among : Contains ps p
  pub not_above : p.1 ≤ u
  pub greatest : All (λ q. q.1 ≤ u → q.1 ≤ p.1) ps
  pub first : All (λ q. q.1 ≡ p.1 → p.0 ≤ q.0) ps

-- a pick is the least not below u, and there is none only where every value is below u
abbrev pub PicksHigh : List (ℕ × ℕ) → Type 0
PicksHigh ps = (u : ℕ) → MatchOption (pick_high ps u) (All (λ q. q.1 < u) ps) (IsHighPick ps u)

-- a pick is the greatest not above u, and there is none only where every value is above u
abbrev pub PicksLow : List (ℕ × ℕ) → Type 0
PicksLow ps = (u : ℕ) → MatchOption (pick_low ps u) (All (λ q. u < q.1) ps) (IsLowPick ps u)
