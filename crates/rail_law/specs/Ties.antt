-- Ties between the values of rails. Values are a list, one a rail, in µV.
use Rattle.std.specs.Prelude.{ℕ, ◌+◌, Bool, nat_le, List, slice_index, IsTrue}
use Rattle.std.specs.List.{list_all}

-- the value of rail `low` and `rise` are at most that of rail `high` and `fall`
pub record Tie : Type 0 where
  pub low : ℕ
  pub rise : ℕ
  pub high : ℕ
  pub fall : ℕ

-- the values keep a tie
abbrev pub is_kept : List ℕ → Tie → Bool
is_kept values tie = nat_le (slice_index values tie.low + tie.rise) (slice_index values tie.high + tie.fall)

-- the values keep each of these ties
abbrev pub keep_all : List ℕ → List Tie → Bool
keep_all values ties = list_all (is_kept values) ties

-- the values keep each of these ties
abbrev pub KeepsAll : List ℕ → List Tie → Type 0
KeepsAll values ties = IsTrue (keep_all values ties)
