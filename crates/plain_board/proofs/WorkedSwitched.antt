-- Which rails are off, moved and switched, worked out by hand: a battery, and two bucks that it supplies.
use Rattle.std.specs.Prelude.{◌≡◌, ◌+◌, ◌==◌, ◌++◌, ℕ, true, false, List, [], ◌∷◌, Some, None, codes, map, slice_get, if◌then◌else◌}
use Rattle.std.proofs.Common.{zero, suc, refl, sym, subst, arith}
use Rattle.std.proofs.lemmas.Bool.{true≢false}
use Rattle.std.proofs.lemmas.Option.{same_Some}
use Rattle.linear_range.specs.Values.{values}
use Rattle.chip_regs.specs.Registers.{with_byte, byte_of, with_field, field_of}
use Rattle.board.specs.declared.board.Board.{Board}
use Rattle.board.specs.declared.part.Part.TheVariants.{Selector}
use Rattle.board.specs.declared.rail.Rail.{Rail}
use Rattle.board.specs.Rail.{is_on}
use Rattle.board.proofs.Boards.{first_buck, buck, core_table, fixed, rail_of, coupled_board}
use Rattle.rail_law.specs.Moves.{Move, after_moves}
use Rattle.rows.specs.declared.call.Call.{Call}
use Rattle.rows.specs.declared.call.Call.TheVariants.{Open, Enable, Disable, ReleaseBoot}
use Rattle.plain_board.specs.Answer.{plan}
use Rattle.plain_board.specs.Plan.{chain, switch}
use Rattle.plain_board.specs.Switched.{is_off, off_rails, is_moved, AreSwitched}
use Rattle.plain_board.proofs.Played.{Turn, asks, cut_after, other_asks, played, rail, a, chip_with}
use Rattle.plain_board.proofs.PlayedBoards.{fork_board, fork_plain, always_board, always_plain}

-- the bucks with these on bits, the first by bit 0, and the battery
abbrev fork_regs : ℕ → ℕ → List (List ℕ)
fork_regs bucks battery_on = chip_with ((0x10, 0x20) ∷ (0x11, 0x20) ∷ (0x20, bucks) ∷ (0x30, 0x15) ∷ []) ∷ chip_with ((0, battery_on) ∷ []) ∷ []

-- the battery and the first buck are on, the second buck is off, and a fourth rail isn't there
which_are_off : map (is_off fork_board (fork_regs 1 1)) (0 ∷ 1 ∷ 2 ∷ 3 ∷ []) ≡ false ∷ false ∷ true ∷ false ∷ []
unfolding with_byte byte_of with_field field_of
which_are_off = refl

-- those that are off, in the order in which they are given
first_off : off_rails fork_board (fork_regs 2 1) (2 ∷ 0 ∷ 1 ∷ 7 ∷ []) ≡ 1 ∷ []
unfolding with_byte byte_of with_field field_of
first_off = refl

all_off : off_rails fork_board (fork_regs 0 0) (2 ∷ 0 ∷ 1 ∷ []) ≡ 2 ∷ 0 ∷ 1 ∷ []
unfolding with_byte byte_of with_field field_of
all_off = refl

none_off : off_rails fork_board (fork_regs 3 1) (2 ∷ 0 ∷ 1 ∷ []) ≡ []
unfolding with_byte byte_of with_field field_of
none_off = refl

-- a rail is moved by any of the moves, whatever it writes
moved_by_one : map (is_moved (switch 1 0 ∷ switch 0 2 ∷ [])) (0 ∷ 1 ∷ 2 ∷ []) ≡ true ∷ false ∷ true ∷ []
moved_by_one = refl

moved_by_none : is_moved [] 0 ≡ false
moved_by_none = refl

-- what holds of each rail of a list, one after another
abbrev OfEach : (ℕ → Rail → Type 0) → ℕ → List Rail → Type 0
OfEach P i [] = Unit {0}
OfEach P i (rail ∷ rails) = P i rail × OfEach P (i + 1) rails

for_each : (P : ℕ → Rail → Type 0) (n : ℕ) (rails : List Rail) → OfEach P n rails → (i : ℕ) (rail : Rail) → slice_get rails i ≡ Some rail → P (n + i) rail
for_each P n [] all i rail is = absurd (cc)
for_each P n (first ∷ rails) all zero rail is = let here : n ≡ n + 0 = omega arith in subst (λ k. P k rail) here (subst (P n) (same_Some first rail is) all.0)
for_each P n (first ∷ rails) all (suc i) rail is = let there : n + 1 + i ≡ n + suc i = omega arith in subst (λ k. P k rail) there (for_each P (n + 1) rails all.1 i rail is)

-- a rail has its on bit as some moves say
abbrev IsAsMoved : Board → ℕ → List (List ℕ) → List Move → ℕ → Rail → Type 0
IsAsMoved board bits regs moves i rail = is_on rail (after_moves board regs moves) ≡ (if is_moved moves i then bits == 1 else is_on rail regs)

switched_each : (board : Board) (bits : ℕ) (regs : List (List ℕ)) (moves : List Move) → OfEach (IsAsMoved board bits regs moves) 0 board.rails → AreSwitched board bits regs moves
switched_each board bits regs moves all i rail at =
    let same : 0 + i ≡ i = omega arith in
    subst (λ k. IsAsMoved board bits regs moves k rail) same (for_each (IsAsMoved board bits regs moves) 0 board.rails all i rail at)

-- the battery and the first buck come up, and the second buck stays off
two_came_up : AreSwitched fork_board 1 (fork_regs 0 0) (switch 1 0 ∷ switch 1 1 ∷ [])
unfolding with_byte byte_of with_field field_of
two_came_up = switched_each fork_board 1 (fork_regs 0 0) (switch 1 0 ∷ switch 1 1 ∷ []) (refl, (refl, (refl, tt)))

-- the second buck goes down, and the first one stays on
one_went_down : AreSwitched fork_board 0 (fork_regs 3 1) (switch 0 2 ∷ [])
unfolding with_byte byte_of with_field field_of
one_went_down = switched_each fork_board 0 (fork_regs 3 1) (switch 0 2 ∷ []) (refl, (refl, (refl, tt)))

-- without a move each stays
none_switched : AreSwitched fork_board 1 (fork_regs 2 1) []
unfolding with_byte byte_of with_field field_of
none_switched = switched_each fork_board 1 (fork_regs 2 1) [] (refl, (refl, (refl, tt)))

-- a rail that came up didn't go down
not_down : ¬ AreSwitched fork_board 0 (fork_regs 0 0) (switch 1 0 ∷ [])
unfolding with_byte byte_of with_field field_of
not_down is = true≢false (is 0 (rail_of (codes "vbat") (fixed 4200000) 4200000 4200000 None 0) refl)

-- a rail whose value alone was written isn't switched
not_on : ¬ AreSwitched fork_board 1 (fork_regs 0 0) (record { rail = rail 1; part = Selector; bits = 1 } ∷ [])
unfolding with_byte byte_of with_field field_of
not_on is = true≢false (sym (is 1 (rail_of (codes "buck1") (buck 0 core_table 0x7f) 800000 1000000 (Some 0) 1) refl))

-- where two rails have one on bit the other one doesn't stay off
abbrev one_bit_board : Board
one_bit_board = record coupled_board { rails = first_buck ∷ first_buck ∷ [] }

both_came_up : ¬ AreSwitched one_bit_board 1 (fork_regs 0 0) (switch 1 0 ∷ [])
unfolding with_byte byte_of with_field field_of
both_came_up is = true≢false (is 1 first_buck refl)

-- an enable of the first buck: the battery comes up before it, where it is off
abbrev opened : List Turn
opened = asks (Open a (rail 1) false) ∷ other_asks (Open a (rail 2) false) ∷ []

abbrev fork_plan : List Turn → ℕ → Call → List Move
fork_plan turns worker call = plan fork_board (played fork_board fork_plain turns) worker call

chain_up : chain fork_board 1 ≡ 1 ∷ 0 ∷ []
chain_up = refl

battery_first : fork_plan opened 1 (Enable a) ≡ switch 1 0 ∷ switch 1 1 ∷ []
unfolding with_byte byte_of with_field field_of values
battery_first = refl

battery_is_on : fork_plan (opened ++ other_asks (Enable a) ∷ []) 1 (Enable a) ≡ switch 1 1 ∷ []
unfolding with_byte byte_of with_field field_of values
battery_is_on = refl

-- a disable: the battery goes down after the last buck
buck_alone : fork_plan (opened ++ asks (Enable a) ∷ other_asks (Enable a) ∷ []) 1 (Disable a) ≡ switch 0 1 ∷ []
unfolding with_byte byte_of with_field field_of values
buck_alone = refl

battery_last : fork_plan (opened ++ asks (Enable a) ∷ []) 1 (Disable a) ≡ switch 0 1 ∷ switch 0 0 ∷ []
unfolding with_byte byte_of with_field field_of values
battery_last = refl

-- the bus stopped that disable before the battery: it stays on without use, and the next disable is refused
stopped_before_battery : map (is_off fork_board (played fork_board fork_plain (opened ++ asks (Enable a) ∷ cut_after 1 (Disable a) ∷ [])).regs) (0 ∷ 1 ∷ 2 ∷ []) ≡ false ∷ true ∷ true ∷ []
unfolding with_byte byte_of with_field field_of values
stopped_before_battery = refl

nothing_left : fork_plan (opened ++ asks (Enable a) ∷ cut_after 1 (Disable a) ∷ []) 1 (Disable a) ≡ []
unfolding with_byte byte_of with_field field_of values
nothing_left = refl

-- the end of the holds of the start: the buck that isn't always on goes down, and the battery stays for the other
one_released : plan always_board always_plain 1 ReleaseBoot ≡ switch 0 2 ∷ []
unfolding with_byte byte_of with_field field_of values
one_released = refl
