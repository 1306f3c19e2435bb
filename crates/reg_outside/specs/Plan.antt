use Rattle.std.specs.Prelude.{◌≡◌, ℕ, Bool, false, ◌+◌, ◌<◌, ◌≤◌, List, Option, IsTrue, IfSome, IsSomeAnd, count_by, refl}
use Rattle.std.specs.Option.{option_map}
use Rattle.std.specs.List.{range_with_len}
use Rattle.std.specs.Coded.{Coded, code_by, coded×, coded_ℕ}
use Rattle.std.specs.FinSet.{FinSet, contains, from_list, code}
use Rattle.std.specs.Ordering.{nat_cmp}
use Rattle.reg_outside.specs.Count.{raised}

-- which of many calls are refused: how many were tried so far, and the numbers, from 1, of those that are refused
pub record Plan : Type 0 where
  pub tried : ℕ
  pub numbers : FinSet nat_cmp

-- a plan is stored as the pair of its fields
abbrev pub plan_code : Coded Plan
plan_code =
    code_by (ℕ × FinSet nat_cmp) (coded× coded_ℕ (code coded_ℕ)) (λ plan. (plan.tried, plan.numbers))
    (λ p. record { tried = p.0; numbers = p.1 }) (λ _. refl)

-- whether the call of a number is one of those that are refused
abbrev pub refuses : Plan → ℕ → Bool
refuses plan number = contains plan.numbers number

-- the plan to refuse the calls of these numbers, before the first call
abbrev pub plan_of : List ℕ → Plan
plan_of numbers = record { tried = 0; numbers = from_list numbers }

-- the next call is one of those that are refused
abbrev pub RefusesNext : Plan → Type 0
RefusesNext plan = IsTrue (refuses plan (plan.tried + 1))

-- the plan after one more call
abbrev pub after_a_call : Plan → Plan
after_a_call plan = record plan { tried = raised plan.tried 1 }

-- no call is refused
abbrev pub RefusesNone : Plan → Type 0
RefusesNone plan = (number : ℕ) → refuses plan number ≡ false

-- none of the next so many calls is refused
abbrev pub RefusesNoneOfNext : Plan → ℕ → Type 0
RefusesNoneOfNext plan calls = (number : ℕ) → plan.tried < number → number ≤ plan.tried + calls → refuses plan number ≡ false

-- none of the calls tried so far was one of those that are refused
abbrev pub RefusedNone : Plan → Type 0
RefusedNone plan = (number : ℕ) → 0 < number → number ≤ plan.tried → refuses plan number ≡ false

-- how many of the calls tried so far were refused
unfoldable pub refused_of : Plan → ℕ
refused_of plan = count_by (refuses plan) (range_with_len 1 plan.tried)

-- the numbers of the calls that are refused are at most the greatest `u32`
abbrev pub HasSmallNumbers : Plan → Type 0
HasSmallNumbers plan = (number : ℕ) → IsTrue (refuses plan number) → number ≤ 4294967295

-- a told plan after one more update
abbrev pub next_plan : Option Plan → Option Plan
next_plan told = option_map after_a_call told

-- the next update is told to be one of those that are refused
abbrev pub IsPlanned : Option Plan → Type 0
IsPlanned told = IsSomeAnd told RefusesNext

-- the planned numbers are at most the greatest `u32`, where they are told
abbrev pub ArePlannedSmall : Option Plan → Type 0
ArePlannedSmall told = IfSome told HasSmallNumbers
