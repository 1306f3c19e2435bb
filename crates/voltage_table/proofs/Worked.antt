-- lists of values worked out by hand
use Rattle.std.proofs.Common.{◌≡◌, ℕ, List, [], ◌∷◌, None, Some, replicate, refl, lit<, lit≤, arith}
use Rattle.std.proofs.lemmas.List.{length-replicate}
use Rattle.voltage_table.specs.declared.list_fault.ListFault.TheVariants.{Empty, TooMany}
use Rattle.voltage_table.specs.Values.{value_of, values, pick_high, pick_low}
use Rattle.voltage_table.specs.VoltList.{IsSound}
use Rattle.voltage_table.specs.ListFault.{first_fault}

abbrev four : List ℕ
four = 5 ∷ 3 ∷ 5 ∷ 3 ∷ []

value_by_place : value_of four 1 ≡ Some 3
value_by_place = refl

no_value_past_the_end : value_of four 4 ≡ None
no_value_past_the_end = refl

pairs_of_four : values four ≡ (0, 5) ∷ (1, 3) ∷ (2, 5) ∷ (3, 3) ∷ []
pairs_of_four = refl

least_not_below_4 : pick_high (values four) 4 ≡ Some (0, 5)
least_not_below_4 = refl

greatest_not_above_4 : pick_low (values four) 4 ≡ Some (1, 3)
greatest_not_above_4 = refl

four_fit_into_four : IsSound 4 four
four_fit_into_four = record { some = lit< tt; few = lit≤ tt; selectable = lit≤ tt }

four_do_not_fit_into_three : IsSound 3 four → ⊥
four_do_not_fit_into_three sound = let few = sound.few in omega arith

none_is_no_table : IsSound 4 [] → ⊥
none_is_no_table sound = let some = sound.some in omega arith

as_many_as_selectors : IsSound 70000 (replicate 65536 0)
as_many_as_selectors = record {
  some = omega (arith, length-replicate {A = ℕ} 65536 0);
  few = omega (arith, length-replicate {A = ℕ} 65536 0);
  selectable = omega (arith, length-replicate {A = ℕ} 65536 0);
}

one_more_than_selectors : IsSound 70000 (replicate 65537 0) → ⊥
one_more_than_selectors sound = let selectable = sound.selectable in omega (arith, length-replicate {A = ℕ} 65537 0)

empty_is_refused : first_fault 4 [] ≡ Some Empty
empty_is_refused = refl

four_are_too_many_for_three : first_fault 3 four ≡ Some (TooMany 4)
four_are_too_many_for_three = refl

four_are_not_for_four : first_fault 4 four ≡ None
four_are_not_for_four = refl
