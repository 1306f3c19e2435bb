-- ranges worked out by hand: 750 µV at the selectors 0 and 1, and 800, 810, 820 µV at 4, 5, 6
use Rattle.std.proofs.Common.{◌≡◌, ℕ, zero, suc, ◌<◌, ◌≤◌, true, false, List, [], ◌∷◌, None, Some, get_or, refl, sym, lit<, lit≤, arith}
use Rattle.std.proofs.lemmas.Bool.{false≢true}
use Rattle.std.proofs.lemmas.List.Elements.{All-from_recursion}
use Rattle.linear_range.specs.declared.linear_range.LinearRange.{LinearRange}
use Rattle.linear_range.specs.declared.table_fault.TableFault.TheVariants.{TooMany, Reversed, TooHigh, Overlap}
use Rattle.linear_range.specs.LinearRange.{greatest_of, IsFitting, is_reversed, is_too_high, share_selector, IsSound}
use Rattle.linear_range.specs.Pick.{lesser_of, greater_of}
use Rattle.linear_range.specs.RangeTable.{first_overlap, first_fault}
use Rattle.linear_range.specs.Values.{value_in, value_of, selectors_end, values, pick_high, pick_low}

-- so many µV from the first selector to the last, and so many more for each next one
abbrev range : ℕ → ℕ → ℕ → ℕ → LinearRange
range min first last step = record { min = min; min_sel = first; max_sel = last; step = step }

abbrev high : LinearRange
high = range 800 4 6 10

abbrev flat : LinearRange
flat = range 750 0 1 0

abbrev two : List LinearRange
two = high ∷ flat ∷ []

in_the_range : value_in high 5 ≡ Some 810
in_the_range = refl

at_its_first : value_in high 4 ≡ Some 800
at_its_first = refl

at_its_last : value_in high 6 ≡ Some 820
at_its_last = refl

below_the_range : value_in high 3 ≡ None
below_the_range = refl

above_the_range : value_in high 7 ≡ None
above_the_range = refl

of_the_second_range : value_of two 1 ≡ Some 750
of_the_second_range = refl

between_the_ranges : value_of two 2 ≡ None
between_the_ranges = refl

end_of_both : selectors_end two ≡ 7
end_of_both = refl

pairs_of_two : values two ≡ (0, 750) ∷ (1, 750) ∷ (4, 800) ∷ (5, 810) ∷ (6, 820) ∷ []
unfolding values
pairs_of_two = refl

-- a value between the ranges
least_not_below_760 : pick_high (values two) 760 ≡ Some (4, 800)
unfolding values
least_not_below_760 = refl

greatest_not_above_760 : pick_low (values two) 760 ≡ Some (0, 750)
unfolding values
greatest_not_above_760 = refl

ends_at_820 : greatest_of high ≡ 820
ends_at_820 = refl

one_selector_fits : IsFitting (range 800 4 4 10)
one_selector_fits = (lit≤ tt, lit< tt)

greatest_number_fits : IsFitting (range 4294967294 0 1 1)
greatest_number_fits = (lit≤ tt, lit< tt)

one_more_does_not : IsFitting (range 4294967295 0 1 1) → ⊥
one_more_does_not fits = let low = fits.1 in omega arith

no_selector_does_not : IsFitting (range 800 5 4 10) → ⊥
no_selector_does_not fits = let order = fits.0 in omega arith

first_above_last : is_reversed (range 800 5 4 10) ≡ true
first_above_last = refl

first_at_last : is_reversed (range 800 4 4 10) ≡ false
first_at_last = refl

no_u32 : is_too_high (range 4294967295 0 1 1) ≡ true
no_u32 = refl

greatest_u32 : is_too_high (range 4294967294 0 1 1) ≡ false
greatest_u32 = refl

touching_share : share_selector (range 800 4 6 10) (range 900 6 8 10) ≡ true
touching_share = refl

touching_from_above_share : share_selector (range 900 6 8 10) (range 800 4 6 10) ≡ true
touching_from_above_share = refl

neighbours_do_not : share_selector (range 800 4 6 10) (range 900 7 8 10) ≡ false
neighbours_do_not = refl

neighbours_from_above_do_not : share_selector (range 900 7 8 10) (range 800 4 6 10) ≡ false
neighbours_from_above_do_not = refl

abbrev three : List LinearRange
three = flat ∷ high ∷ range 900 6 8 10 ∷ []

second_and_third_overlap : first_overlap 0 three ≡ Some (1, 2)
second_and_third_overlap = refl

two_do_not_overlap : first_overlap 0 two ≡ None
two_do_not_overlap = refl

first_overlaps_twice : first_overlap 0 (range 1 0 9 0 ∷ three) ≡ Some (0, 1)
first_overlaps_twice = refl

no_fault : first_fault 2 two ≡ None
no_fault = refl

too_many_before_all : first_fault 2 (range 1 5 4 1 ∷ three) ≡ Some (TooMany 4)
too_many_before_all = refl

reversed_before_too_high : first_fault 4 (range 4294967295 0 1 1 ∷ range 1 5 4 1 ∷ []) ≡ Some (Reversed 1)
reversed_before_too_high = refl

too_high_before_overlap : first_fault 4 (high ∷ high ∷ range 4294967295 0 1 1 ∷ []) ≡ Some (TooHigh 2)
too_high_before_overlap = refl

overlap_last : first_fault 4 three ≡ Some (Overlap 1 2)
overlap_last = refl

two_are_sound : IsSound 2 two
two_are_sound = record {
  few = lit≤ tt;
  fitting = All-from_recursion IsFitting two ((lit≤ tt, lit< tt), ((lit≤ tt, lit< tt), tt));
  apart = λ i j d below within. apart i j d below within;
}
  where
    apart : (i j : ℕ) (d : LinearRange) → i < j → j < 2 → share_selector (get_or two i d) (get_or two j d) ≡ false
    apart zero (suc zero) d below within = refl
    apart zero zero d below within = absurd (omega arith)
    apart (suc i) j d below within = absurd (omega arith)
    apart zero (suc (suc j)) d below within = absurd (omega arith)

two_do_not_fit_into_one : IsSound 1 two → ⊥
two_do_not_fit_into_one sound = let few = sound.few in omega arith

reversed_is_not_sound : IsSound 2 (high ∷ range 1 3 2 1 ∷ []) → ⊥
reversed_is_not_sound sound = let order : 3 ≤ 2 = (sound.fitting 1 high (lit< tt)).0 in omega arith

overlapping_are_not_sound : IsSound 3 three → ⊥
overlapping_are_not_sound sound = false≢true (sym (sound.apart 1 2 high (lit< tt) (lit< tt)))

fewer_wins : lesser_of (Some (0, 5)) (Some (1, 3)) ≡ Some (1, 3)
fewer_wins = refl

more_loses : lesser_of (Some (0, 3)) (Some (1, 5)) ≡ Some (0, 3)
more_loses = refl

lesser_selector_of_equal : lesser_of (Some (4, 3)) (Some (1, 3)) ≡ Some (1, 3)
lesser_selector_of_equal = refl

lesser_selector_of_equal_first : lesser_of (Some (1, 3)) (Some (4, 3)) ≡ Some (1, 3)
lesser_selector_of_equal_first = refl

only_one : lesser_of (Some (4, 3)) None ≡ Some (4, 3)
only_one = refl

more_wins : greater_of (Some (0, 3)) (Some (1, 5)) ≡ Some (1, 5)
more_wins = refl

fewer_loses : greater_of (Some (0, 5)) (Some (1, 3)) ≡ Some (0, 5)
fewer_loses = refl

lesser_selector_of_equal_too : greater_of (Some (4, 3)) (Some (1, 3)) ≡ Some (1, 3)
lesser_selector_of_equal_too = refl

lesser_selector_of_equal_first_too : greater_of (Some (1, 3)) (Some (4, 3)) ≡ Some (1, 3)
lesser_selector_of_equal_first_too = refl
