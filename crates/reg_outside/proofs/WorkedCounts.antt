-- counts of faults and content that may not be told, worked out by hand
use Rattle.std.proofs.Common.{ℕ, ◌≡◌, ◌-◌, ◌^◌, [], ◌∷◌, Some, None, refl, lit<, lit≤, arith}
use Rattle.reg_outside.specs.Count.{count_end, raised, RoseBy, Rose, Stayed}
use Rattle.reg_outside.specs.Told.{with_more, with_before, IsSpent, StartsEmpty}

end-is : count_end ≡ 2 ^ 64 - 1
end-is = refl

raised-by_two : raised 3 2 ≡ 5
raised-by_two = refl

raised-to_the_end : raised 18446744073709551614 5 ≡ 18446744073709551615
raised-to_the_end = refl

raised-at_the_end : raised 18446744073709551615 1 ≡ 18446744073709551615
raised-at_the_end = refl

two_more : RoseBy 3 5 2
two_more = lit≤ tt

one_more_is_not_two : RoseBy 3 4 2 → ⊥
one_more_is_not_two rose = omega arith

any_number_at_the_end : RoseBy 18446744073709551615 18446744073709551615 7
any_number_at_the_end = lit≤ tt

one_more : Rose 3 4
one_more = lit≤ tt

same_is_no_more : Rose 3 3 → ⊥
same_is_no_more rose = omega arith

same_stayed : Stayed 3 3
same_stayed = lit< tt

more_did_not_stay : Stayed 3 4 → ⊥
more_did_not_stay stayed = omega arith

end_did_not_stay : Stayed 18446744073709551615 18446744073709551615 → ⊥
end_did_not_stay stayed = omega arith

more_at_the_end : with_more {A = ℕ} (Some (1 ∷ 2 ∷ [])) (3 ∷ []) ≡ Some (1 ∷ 2 ∷ 3 ∷ [])
more_at_the_end = refl

more_untold : with_more {A = ℕ} None (3 ∷ []) ≡ None
more_untold = refl

before_in_front : with_before {A = ℕ} (3 ∷ []) (Some (1 ∷ 2 ∷ [])) ≡ Some (3 ∷ 1 ∷ 2 ∷ [])
before_in_front = refl

before_untold : with_before {A = ℕ} (3 ∷ []) None ≡ None
before_untold = refl

nothing_is_spent : IsSpent {A = ℕ} (Some [])
nothing_is_spent = refl

one_left_is_not_spent : IsSpent {A = ℕ} (Some (1 ∷ [])) → ⊥
one_left_is_not_spent spent = cc

told_starts_empty : StartsEmpty {A = ℕ} (Some (1 ∷ [])) (Some [])
told_starts_empty = refl

untold_part_of_told : StartsEmpty {A = ℕ} (Some (1 ∷ [])) None → ⊥
untold_part_of_told starts = cc

untold_whole : StartsEmpty {A = ℕ} None None
untold_whole = tt

part_of_untold_with_one : StartsEmpty {A = ℕ} None (Some (1 ∷ [])) → ⊥
part_of_untold_with_one starts = cc
