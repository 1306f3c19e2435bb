-- The values of a table, written out.
use Rattle.std.specs.Prelude.{ℕ, ◌+◌, ◌-◌, ◌*◌, max, nat_le, ◌&&◌, if◌then◌else◌, List, [], ◌∷◌, Option, None, Some}
use Rattle.std.specs.Option.{option_or, option_map}
use Rattle.std.specs.List.{filter_map, range_with_len}
use Rattle.linear_range.specs.declared.linear_range.LinearRange.{LinearRange}
pub use Rattle.value_list.specs.Picks.{lesser_pair, least_pair, greater_pair, greatest_pair, pick_high, pick_low}

-- the value of a selector in one range
abbrev pub value_in : LinearRange → ℕ → Option ℕ
value_in r sel =
    if nat_le r.min_sel sel && nat_le sel r.max_sel
    then Some (r.min + (sel - r.min_sel) * r.step)
    else None

-- the value of a selector in a table: that of the range that has it
abbrev pub value_of : List LinearRange → ℕ → Option ℕ
value_of [] sel = None
value_of (r ∷ rs) sel = option_or (value_in r sel) (value_of rs sel)

-- one more than the greatest selector of all ranges
abbrev pub selectors_end : List LinearRange → ℕ
selectors_end [] = 0
selectors_end (r ∷ rs) = max (r.max_sel + 1) (selectors_end rs)

-- the pairs (selector, µV), selector by selector from 0 on
unfoldable pub values : List LinearRange → List (ℕ × ℕ)
values rs =
    filter_map (λ sel. option_map (λ uv. (sel, uv)) (value_of rs sel))
    (range_with_len 0 (selectors_end rs))
