-- modes worked out by hand, for a rail that carries 3000000 µA in fast, 1000000 in normal, 50000 in idle and 5000 in standby
use Rattle.std.proofs.Common.{ℕ, ◌≡◌, ◌<◌, ◌≤◌, true, false, List, [], ◌∷◌, None, Some, refl, lit<, arith}
use Rattle.load_modes.specs.declared.mode.Mode.TheVariants.{Fast, Normal, Idle, Standby}
use Rattle.load_modes.specs.declared.modes.Modes.{Modes}
use Rattle.load_modes.specs.Modes.{bit_of, greatest_of, bits_of, allows, suffices, mode_of_load, power_of, IsLowest}
use Rattle.load_modes.proofs.Lowest.{mode_of_load-IsLowest}

abbrev loads : List ℕ
loads = 3000000 ∷ 1000000 ∷ 50000 ∷ 5000 ∷ []

abbrev set : ℕ → Modes
set bits = record { 0 = bits }

-- the bits as in Linux
bit_of_fast : bit_of Fast ≡ 1
bit_of_fast = refl

bit_of_normal : bit_of Normal ≡ 2
bit_of_normal = refl

bit_of_idle : bit_of Idle ≡ 4
bit_of_idle = refl

bit_of_standby : bit_of Standby ≡ 8
bit_of_standby = refl

fast_first : greatest_of loads Fast ≡ 3000000
fast_first = refl

then_normal : greatest_of loads Normal ≡ 1000000
then_normal = refl

then_idle : greatest_of loads Idle ≡ 50000
then_idle = refl

standby_last : greatest_of loads Standby ≡ 5000
standby_last = refl

bits_of_a_set : bits_of (set 10) ≡ 10
bits_of_a_set = refl

normal_is_in_it : allows (set 10) Normal ≡ true
normal_is_in_it = refl

idle_is_not : allows (set 10) Idle ≡ false
idle_is_not = refl

full_load_suffices : suffices loads (set 15) 50000 Idle ≡ true
unfolding suffices
full_load_suffices = refl

one_more_does_not : suffices loads (set 15) 50001 Idle ≡ false
unfolding suffices
one_more_does_not = refl

not_allowed_does_not : suffices loads (set 10) 50000 Idle ≡ false
unfolding suffices
not_allowed_does_not = refl

standby_carries_5000 : mode_of_load loads (set 15) 5000 ≡ Some Standby
unfolding mode_of_load suffices
standby_carries_5000 = refl

idle_carries_5001 : mode_of_load loads (set 15) 5001 ≡ Some Idle
unfolding mode_of_load suffices
idle_carries_5001 = refl

without_standby : mode_of_load loads (set 7) 5000 ≡ Some Idle
unfolding mode_of_load suffices
without_standby = refl

normal_carries_50001 : mode_of_load loads (set 15) 50001 ≡ Some Normal
unfolding mode_of_load suffices
normal_carries_50001 = refl

fast_carries_3000000 : mode_of_load loads (set 15) 3000000 ≡ Some Fast
unfolding mode_of_load suffices
fast_carries_3000000 = refl

none_carries_3000001 : mode_of_load loads (set 15) 3000001 ≡ None
unfolding mode_of_load suffices
none_carries_3000001 = refl

none_where_none_is_allowed : mode_of_load loads (set 0) 0 ≡ None
unfolding mode_of_load suffices
none_where_none_is_allowed = refl

power_rises : (power_of Standby < power_of Idle) × (power_of Idle < power_of Normal) × (power_of Normal < power_of Fast)
power_rises = (lit< tt, lit< tt, lit< tt)

power_of_normal : power_of Normal ≡ 2
power_of_normal = refl

power_of_fast : power_of Fast ≡ 3
power_of_fast = refl

idle_is_lowest : IsLowest loads (set 15) 5001 Idle
unfolding mode_of_load suffices
idle_is_lowest = mode_of_load-IsLowest loads (set 15) 5001

normal_is_not : IsLowest loads (set 15) 5001 Normal → ⊥
unfolding suffices
normal_is_not is = let least : 2 ≤ 1 = is.least Idle refl in omega arith

standby_is_not_enough : IsLowest loads (set 15) 5001 Standby → ⊥
unfolding suffices
standby_is_not_enough is = let enough = is.enough in cc
