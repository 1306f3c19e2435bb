-- What makes a range, or a list of ranges, fit to be a table.
use Rattle.std.specs.Prelude.{ℕ, ◌+◌, ◌-◌, ◌*◌, ◌^◌, ◌<◌, ◌≤◌, nat_le, nat_lt, Bool, false, ◌&&◌, ◌≡◌, List, length}
use Rattle.std.specs.List.{All, AllPairs}
use Rattle.linear_range.specs.declared.linear_range.LinearRange.{LinearRange}

-- the value of the range's last selector
abbrev pub greatest_of : LinearRange → ℕ
greatest_of r = r.min + (r.max_sel - r.min_sel) * r.step

-- the range has a selector, and each of its values is a `u32`
abbrev pub IsFitting : LinearRange → Type 0
IsFitting r = (r.min_sel ≤ r.max_sel) × (greatest_of r < 2 ^ 32)

-- the range's first selector is above its last
abbrev pub is_reversed : LinearRange → Bool
is_reversed r = nat_lt r.max_sel r.min_sel

-- the range's greatest value is no `u32`
abbrev pub is_too_high : LinearRange → Bool
is_too_high r = nat_le (2 ^ 32) (greatest_of r)

-- each of the two ranges begins before the other one ends
abbrev pub share_selector : LinearRange → LinearRange → Bool
share_selector r s = nat_le r.min_sel s.max_sel && nat_le s.min_sel r.max_sel

-- at most n ranges, each of which fits, and no two of which have a selector in common
pub record IsSound (n : ℕ) (rs : List LinearRange) : Type 0 where
  pub few : length rs ≤ n
  pub fitting : All IsFitting rs
  pub apart : AllPairs (λ r s. share_selector r s ≡ false) rs
