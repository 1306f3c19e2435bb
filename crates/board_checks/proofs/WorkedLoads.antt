-- Loads that no consumer tells, worked out by hand.
use Rattle.std.proofs.Common.{◌≡◌, ℕ, Bool, true, false, [], ◌∷◌, Some, None, refl}
use Rattle.load_modes.specs.Modes.{mode_of_load, suffices}
use Rattle.board.specs.declared.board.Board.{Board}
use Rattle.board.specs.declared.rail.Rail.{Rail}
use Rattle.board.proofs.Boards.{coupled_board, first_buck, second_buck}
use Rattle.board_checks.specs.declared.fault.CheckFault.TheVariants.{LoadOverModes}
use Rattle.board_checks.specs.Loads.{load_at, load_fault}

-- a rail that carries 3000000, 1000000, 50000 and 5000 µA in its modes, of which these are allowed
abbrev loaded : Bool → ℕ → ℕ → Rail → Rail
loaded counts modes load rail = record rail { limits = record rail.limits { allow_load = counts; allowed = record { 0 = modes }; system_load = load } }

abbrev pair : Rail → Rail → Board
pair first second = record coupled_board { rails = first ∷ second ∷ [] }

carried : load_fault (pair (loaded true 15 3000000 first_buck) second_buck) ≡ None
unfolding mode_of_load suffices
carried = refl

too_much : load_fault (pair (loaded true 15 3000001 first_buck) second_buck) ≡ Some (LoadOverModes 0 3000001)
unfolding mode_of_load suffices
too_much = refl

-- idle alone is allowed
idle_carries : load_fault (pair first_buck (loaded true 4 50000 second_buck)) ≡ None
unfolding mode_of_load suffices
idle_carries = refl

idle_is_too_weak : load_fault (pair first_buck (loaded true 4 50001 second_buck)) ≡ Some (LoadOverModes 1 50001)
unfolding mode_of_load suffices
idle_is_too_weak = refl

-- of two rails the first one
first_of_two : load_fault (pair (loaded true 15 3000002 first_buck) (loaded true 15 3000001 second_buck)) ≡ Some (LoadOverModes 0 3000002)
unfolding mode_of_load suffices
first_of_two = refl

-- no mode is allowed
no_mode : load_fault (pair (loaded true 0 0 first_buck) second_buck) ≡ Some (LoadOverModes 0 0)
unfolding mode_of_load suffices
no_mode = refl

-- a rail that doesn't count loads: none was asked for, or it has no modes
not_asked : load_fault (pair (loaded false 15 3000001 first_buck) second_buck) ≡ None
unfolding mode_of_load suffices
not_asked = refl

without_modes : load_fault (pair (record (loaded true 15 3000001 first_buck) { desc = record first_buck.desc { modes = None } }) second_buck) ≡ None
unfolding mode_of_load suffices
without_modes = refl

no_such_rail : load_at coupled_board 2 ≡ 0
no_such_rail = refl
