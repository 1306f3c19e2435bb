use Rattle.std.proofs.Common.{ℕ, ◌<◌, length, get_or, All, ap, sym, subst, rules}
use Rattle.std.proofs.lemmas.List.Sorted.{IsNonDecreasingBy-from_sort, All-permutation}
use Rattle.reg_outside.specs.Plan.{Plan, HasSmallNumbers}
use Rattle.reg_outside.proofs.Plans.{from_list-IsPermutation, HasSmallNumbers-plan_of}
use Rattle.reg_outside.proofs.schedule.Schedule.new.Goals as goal

pub invariant_of-result : goal.invariant_of-result
invariant_of-result c =
    let small : All (λ n. n < 4294967296) c.args.refused.items = search rules in
    (IsNonDecreasingBy-from_sort (λ n. n) _ c.sort_unstable.ensures.sorted, All-permutation (λ n. n < 4294967296) _ _ c.sort_unstable.ensures.permutation small)

pub returns-clause-plan : goal.returns-clause-plan
returns-clause-plan c =
    ap (λ numbers. let plan : Plan = record { tried = 0; numbers = numbers } in plan) (from_list-IsPermutation _ _ c.sort_unstable.ensures.permutation)

pub returns-clause-small : goal.returns-clause-small
returns-clause-small c =
    let small : (k : ℕ) → k < length c.args.refused.items → get_or c.args.refused.items k 0 < 4294967296 = search rules in
    subst HasSmallNumbers (sym (returns-clause-plan c)) (HasSmallNumbers-plan_of _ small)
