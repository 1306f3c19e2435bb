-- picks worked out by hand from the pairs (0, 5), (1, 3), (2, 5), (3, 3)
use Rattle.std.proofs.Common.{◌≡◌, ℕ, zero, suc, ◌<◌, List, [], ◌∷◌, None, Some, ◌≤◌, get_or, refl, ap, lit<, lit≤, arith}
use Rattle.std.specs.List.{Contains}
use Rattle.value_list.specs.Picks.{lesser_pair, least_pair, greater_pair, greatest_pair, pick_high, pick_low}
use Rattle.value_list.specs.Laws.{SelectorsRise, IsBounded, IsHighPick, IsLowPick}
use Rattle.value_list.proofs.Extremes.{picks_high, picks_low}

abbrev four : List (ℕ × ℕ)
four = (0, 5) ∷ (1, 3) ∷ (2, 5) ∷ (3, 3) ∷ []

fewer_wins : lesser_pair (0, 5) (Some (1, 3)) ≡ (1, 3)
fewer_wins = refl

as_few_stays : lesser_pair (0, 3) (Some (1, 3)) ≡ (0, 3)
as_few_stays = refl

alone_stays : lesser_pair (0, 5) None ≡ (0, 5)
alone_stays = refl

least_first : least_pair four ≡ Some (1, 3)
least_first = refl

least_of_none : least_pair [] ≡ None
least_of_none = refl

more_wins : greater_pair (0, 3) (Some (1, 5)) ≡ (1, 5)
more_wins = refl

as_many_stays : greater_pair (0, 5) (Some (1, 5)) ≡ (0, 5)
as_many_stays = refl

greatest_first : greatest_pair four ≡ Some (0, 5)
greatest_first = refl

least_not_below_4 : pick_high four 4 ≡ Some (0, 5)
least_not_below_4 = refl

least_not_below_3 : pick_high four 3 ≡ Some (1, 3)
least_not_below_3 = refl

none_not_below_6 : pick_high four 6 ≡ None
none_not_below_6 = refl

greatest_not_above_4 : pick_low four 4 ≡ Some (1, 3)
greatest_not_above_4 = refl

greatest_not_above_5 : pick_low four 5 ≡ Some (0, 5)
greatest_not_above_5 = refl

none_not_above_2 : pick_low four 2 ≡ None
none_not_above_2 = refl

place : (k : ℕ) (d : ℕ × ℕ) → k < 4 → (get_or four k d).0 ≡ k
place zero d within = refl
place (suc zero) d within = refl
place (suc (suc zero)) d within = refl
place (suc (suc (suc zero))) d within = refl
place (suc (suc (suc (suc k)))) d within = absurd (omega arith)

selectors_of_four_rise : SelectorsRise four
selectors_of_four_rise i j d below within = omega (arith, place i d (omega arith), place j d within)

the_same_selector_does_not : SelectorsRise ((1, 3) ∷ (1, 5) ∷ []) → ⊥
the_same_selector_does_not rising = let up : 1 < 1 = rising 0 1 (0, 0) (lit< tt) (lit< tt) in omega arith

greatest_of_each : IsBounded ((65535, 4294967295) ∷ [])
greatest_of_each zero d within = (lit< tt, lit< tt)
greatest_of_each (suc k) d within = absurd (omega arith)

selector_too_great : IsBounded ((65536, 1) ∷ []) → ⊥
selector_too_great bounded = let small : 65536 < 65536 = (bounded 0 (0, 0) (lit< tt)).0 in omega arith

value_too_great : IsBounded ((1, 4294967296) ∷ []) → ⊥
value_too_great bounded = let small : 4294967296 < 4294967296 = (bounded 0 (0, 0) (lit< tt)).1 in omega arith

high_pick : IsHighPick four 4 (0, 5)
high_pick = picks_high four selectors_of_four_rise 4

high_pick_itself : IsHighPick four 3 (1, 3)
high_pick_itself = picks_high four selectors_of_four_rise 3

later_is_not_first : IsHighPick four 4 (2, 5) → ⊥
later_is_not_first pick = let first : 2 ≤ 0 = pick.first 0 (0, 0) (lit< tt) refl in omega arith

below_is_no_high_pick : IsHighPick four 4 (1, 3) → ⊥
below_is_no_high_pick pick = let above = pick.not_below in omega arith

more_than_the_least : IsHighPick four 2 (0, 5) → ⊥
more_than_the_least pick = let least : 5 ≤ 3 = pick.least 1 (0, 0) (lit< tt) (lit≤ tt) in omega arith

more_than_one_at_the_bound : IsHighPick four 3 (0, 5) → ⊥
more_than_one_at_the_bound pick = let least : 5 ≤ 3 = pick.least 1 (0, 0) (lit< tt) (lit≤ tt) in omega arith

not_listed : (x : ℕ × ℕ) → x.1 ≡ 4 → Contains four x → ⊥
not_listed x four_uv (zero, within, is) = let uv : 5 ≡ x.1 = ap (λ p. p.1) is in omega arith
not_listed x four_uv (suc zero, within, is) = let uv : 3 ≡ x.1 = ap (λ p. p.1) is in omega arith
not_listed x four_uv (suc (suc zero), within, is) = let uv : 5 ≡ x.1 = ap (λ p. p.1) is in omega arith
not_listed x four_uv (suc (suc (suc zero)), within, is) = let uv : 3 ≡ x.1 = ap (λ p. p.1) is in omega arith
not_listed x four_uv (suc (suc (suc (suc k))), within, is) = omega arith

not_listed_is_no_high_pick : IsHighPick four 4 (0, 4) → ⊥
not_listed_is_no_high_pick pick = not_listed (0, 4) refl pick.among

low_pick : IsLowPick four 4 (1, 3)
low_pick = picks_low four selectors_of_four_rise 4

low_pick_itself : IsLowPick four 5 (0, 5)
low_pick_itself = picks_low four selectors_of_four_rise 5

later_is_not_first_either : IsLowPick four 4 (3, 3) → ⊥
later_is_not_first_either pick = let first : 3 ≤ 1 = pick.first 1 (0, 0) (lit< tt) refl in omega arith

above_is_no_low_pick : IsLowPick four 4 (0, 5) → ⊥
above_is_no_low_pick pick = let below = pick.not_above in omega arith

less_than_the_greatest : IsLowPick four 6 (1, 3) → ⊥
less_than_the_greatest pick = let greatest : 5 ≤ 3 = pick.greatest 0 (0, 0) (lit< tt) (lit≤ tt) in omega arith

less_than_one_at_the_bound : IsLowPick four 5 (1, 3) → ⊥
less_than_one_at_the_bound pick = let greatest : 5 ≤ 3 = pick.greatest 0 (0, 0) (lit< tt) (lit≤ tt) in omega arith

not_listed_is_no_low_pick : IsLowPick four 4 (0, 4) → ⊥
not_listed_is_no_low_pick pick = not_listed (0, 4) refl pick.among
