-- Which fault a list of ranges is refused for.
use Rattle.std.specs.Prelude.{ℕ, ◌+◌, nat_lt, if◌then◌else◌, List, [], ◌∷◌, length, Option, None, Some}
use Rattle.std.specs.Option.{option_or, option_map}
use Rattle.std.specs.List.{position}
use Rattle.linear_range.specs.declared.linear_range.LinearRange.{LinearRange}
use Rattle.linear_range.specs.declared.table_fault.TableFault.{TableFault}
use Rattle.linear_range.specs.declared.table_fault.TableFault.TheVariants.{TooMany, Reversed, TooHigh, Overlap}
use Rattle.linear_range.specs.LinearRange.{is_reversed, is_too_high, share_selector}

-- the first range that has a selector in common with a later one, and the first such later one;
-- the ranges are numbered from i on
abbrev pub first_overlap : ℕ → List LinearRange → Option (ℕ × ℕ)
first_overlap i [] = None
first_overlap i (r ∷ rs) =
    option_or (option_map (λ k. (i, i + 1 + k)) (position (share_selector r) rs))
    (first_overlap (i + 1) rs)

-- the fault of a list of ranges for a table of at most n: the first kind in the order of
-- `TableFault`, at its first place
abbrev pub first_fault : ℕ → List LinearRange → Option TableFault
first_fault n rs =
    option_or (if nat_lt n (length rs) then Some (TooMany (length rs)) else None)
    (option_or (option_map Reversed (position is_reversed rs))
    (option_or (option_map TooHigh (position is_too_high rs))
    (option_map (λ p. Overlap p.0 p.1) (first_overlap 0 rs))))
