-- The widest gap between neighbouring values of a list.
use Rattle.std.specs.Prelude.{ℕ, ◌≢◌, ◌+◌, ◌-◌, ◌≤◌, nat_lt, max, List, filter, fold, Option}
use Rattle.std.specs.List.{filter_map}
use Rattle.std.specs.Option.{option_map}
use Rattle.board.specs.Rail.{least}
use Rattle.board.specs.Gaps.{AreNeighbours}

-- from a value to the least greater one of a list, where there is one
abbrev pub gap_above : List ℕ → ℕ → Option ℕ
gap_above values low = option_map (λ high. high - low) (least (filter (λ high. nat_lt low high) values))

-- the widest gap between neighbouring values; of 0, 100 and 130 it is 100
abbrev pub widest_gap : List ℕ → ℕ
widest_gap values = fold max 0 (filter_map (gap_above values) values)

-- some neighbouring values are this far apart
pub record HasGap (values : List ℕ) (gap : ℕ) : Type 0 where
  pub low : ℕ
  pub neighbours : AreNeighbours values low (low + gap)

-- no neighbouring values are further apart; and some are this far, unless it is 0
pub record IsWidestGap (values : List ℕ) (gap : ℕ) : Type 0 where
  pub none_wider : (low high : ℕ) → AreNeighbours values low high → high ≤ low + gap
  pub reached : gap ≢ 0 → HasGap values gap
