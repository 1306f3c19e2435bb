-- how long changes take, worked out by hand
use Rattle.std.proofs.Common.{ℕ, ◌≡◌, ◌≤◌, refl, lit≤, arith}
use Rattle.ramp_delay.specs.declared.times.Times.{Times}
use Rattle.ramp_delay.specs.Times.{given_or, ramp_of, settling_of, time_of, IsLeastTime}
use Rattle.ramp_delay.proofs.Ceil.{div_ceil-IsLeastTime}

-- a ramp in µV a µs, and the settling time of any change, of one up and of one down in µs
abbrev times : ℕ → ℕ → ℕ → ℕ → Times
times ramp settle up down = record { ramp = ramp; settle = settle; up = up; down = down }

a_given_one : given_or 7 9 ≡ 7
a_given_one = refl

one_in_its_place : given_or 0 9 ≡ 9
one_in_its_place = refl

own_ramp_first : ramp_of (times 12500 0 0 0) 6250 ≡ 12500
own_ramp_first = refl

ramp_of_the_description : ramp_of (times 0 0 0 0) 6250 ≡ 6250
ramp_of_the_description = refl

any_change_first : settling_of (times 0 40 20 30) 800000 900000 ≡ 40
any_change_first = refl

a_change_up : settling_of (times 0 0 20 30) 800000 900000 ≡ 20
a_change_up = refl

a_change_down : settling_of (times 0 0 20 30) 900000 800000 ≡ 30
a_change_down = refl

no_change_is_none_up : settling_of (times 0 0 20 30) 800000 800000 ≡ 30
no_change_is_none_up = refl

rounded_up : time_of (times 12500 40 20 30) 0 800000 906250 ≡ 9
unfolding time_of
rounded_up = refl

as_long_down : time_of (times 0 40 20 30) 12500 906250 800000 ≡ 9
unfolding time_of
as_long_down = refl

settled : time_of (times 0 40 20 30) 0 800000 906250 ≡ 40
unfolding time_of
settled = refl

settled_down : time_of (times 0 0 20 30) 0 906250 800000 ≡ 30
unfolding time_of
settled_down = refl

no_change_no_time : time_of (times 0 40 20 30) 0 800000 800000 ≡ 0
unfolding time_of
no_change_no_time = refl

nine_are_least : IsLeastTime 106250 12500 9
nine_are_least = div_ceil-IsLeastTime 106250 12500 (omega arith)

eight_do_not_cover : IsLeastTime 106250 12500 8 → ⊥
eight_do_not_cover is = let covers = is.covers in omega arith

ten_are_not_least : IsLeastTime 106250 12500 10 → ⊥
ten_are_not_least is = let least : 10 ≤ 9 = is.least 9 (lit≤ tt) in omega arith

-- the distance itself is covered
eight_and_no_more : IsLeastTime 100000 12500 8
eight_and_no_more = div_ceil-IsLeastTime 100000 12500 (omega arith)

nine_are_more : IsLeastTime 100000 12500 9 → ⊥
nine_are_more is = let least : 9 ≤ 8 = is.least 8 (lit≤ tt) in omega arith
