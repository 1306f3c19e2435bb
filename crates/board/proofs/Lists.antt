-- The picks of a list, as those of any table.
use Rattle.std.proofs.Common.{◌≡◌, ◌<◌, subst, ℕ, List, Option, Some, None, sym}
use Rattle.std.specs.Prelude.{All, MatchOption, IfSome}
use Rattle.std.specs.Option.{option_map}
use Rattle.linear_range.specs.declared.pick.Pick.{Pick}
use Rattle.linear_range.specs.Pick.{pair_of}
use Rattle.voltage_table.specs.Laws.{ListsValues, PicksHigh, PicksLow, IsHighPick, IsLowPick}
use Rattle.voltage_table.specs.Values.{value_of, values, pick_high as entry_high, pick_low as entry_low}

-- the selector of a high pick has its value
pub high_value : (xs : List ℕ) (u : ℕ) (o : Option Pick) → PicksHigh xs → ListsValues xs → option_map pair_of o ≡ entry_high (values xs) u
    → IfSome o (λ pick. value_of xs pick.sel ≡ Some pick.uv)
high_value xs u None high listed is = tt
high_value xs u (Some pick) high listed is =
    let pick_is : MatchOption (Some (pair_of pick)) (All (λ q. q.1 < u) (values xs)) (IsHighPick (values xs) u) =
    subst (λ (o : Option (ℕ × ℕ)). MatchOption o (All (λ q. q.1 < u) (values xs)) (IsHighPick (values xs) u)) (sym is) (high u) in
    (listed pick.sel pick.uv).0 pick_is.among

-- the selector of a low pick has its value
pub low_value : (xs : List ℕ) (u : ℕ) (o : Option Pick) → PicksLow xs → ListsValues xs → option_map pair_of o ≡ entry_low (values xs) u
    → IfSome o (λ pick. value_of xs pick.sel ≡ Some pick.uv)
low_value xs u None low listed is = tt
low_value xs u (Some pick) low listed is =
    let pick_is : MatchOption (Some (pair_of pick)) (All (λ q. u < q.1) (values xs)) (IsLowPick (values xs) u) =
    subst (λ (o : Option (ℕ × ℕ)). MatchOption o (All (λ q. u < q.1) (values xs)) (IsLowPick (values xs) u)) (sym is) (low u) in
    (listed pick.sel pick.uv).0 pick_is.among
