-- Scripts on rails whose mode their loads choose, played by hand: 1000 µA no consumer tells, idle
-- carries 50000 µA, normal 1000000 and fast 3000000, and standby isn't allowed.
use Rattle.std.specs.Prelude.{◌≡◌, ℕ, false, List, [], ◌∷◌, ◌++◌, map, None, codes}
use Rattle.std.specs.Fmt.{digits}
use Rattle.std.proofs.Common.{refl}
use Rattle.linear_range.specs.Values.{values}
use Rattle.ramp_delay.specs.Times.{time_of}
use Rattle.load_modes.specs.declared.mode.Mode.TheVariants.{Fast, Normal, Idle, Standby}
use Rattle.load_modes.specs.Modes.{suffices, mode_of_load}
use Rattle.chip_regs.specs.Registers.{with_byte, byte_of, with_field, field_of}
use Rattle.board.specs.declared.board.Board.{Board}
use Rattle.board.specs.declared.rail.Rail.{Rail}
use Rattle.board.specs.declared.write.Write.{Write}
use Rattle.board.proofs.Boards.{ldo, usb_table, rail_of}
use Rattle.rail_law.specs.Moves.{writes_of}
use Rattle.rows.specs.declared.answer.Answer.{Answer}
use Rattle.rows.specs.declared.answer.Answer.TheVariants.{Ok, OkTime, OkMode, OkOn, NotAllowed, NoMode, Fault}
use Rattle.rows.specs.declared.call.Call.{Call}
use Rattle.rows.specs.declared.call.Call.TheVariants.{Open, Close, Enable, Disable, Load, IsOn, ModeOf}
use Rattle.plain_board.specs.declared.plain.Plain.{Plain}
use Rattle.plain_board.specs.Answer.{plan}
use Rattle.plain_board.specs.Text.{summary_text}
use Rattle.plain_board.proofs.Played.{Turn, asks, cut_after, answers, played, rail, lines, a, b}
use Rattle.plain_board.proofs.PlayedBoards.{core_board, load_rail, load_board, load_plain}

abbrev open_a : Turn
open_a = asks (Open a (rail 0) false)

abbrev open_b : Turn
open_b = asks (Open b (rail 0) false)

abbrev load_answers : List Turn → List Answer
load_answers turns = answers load_board load_plain turns

abbrev load_after : List Turn → Plain
load_after turns = played load_board load_plain turns

-- up to the greatest load of each mode and one above it; the load of a handle without enables doesn't count until it enables
by_loads : load_answers (open_a ∷ asks (Enable a) ∷ asks (Load a 49000) ∷ asks (Load a 49001) ∷ asks (Load a 2999000) ∷ asks (Load a 2999001) ∷ asks (Load a 4294967295) ∷ asks (Load a 2000000)
    ∷ open_b ∷ asks (Load b 999001) ∷ asks (Enable b) ∷ asks (Load a 0) ∷ asks (Enable b) ∷ [])
    ≡ Ok ∷ OkTime 100 ∷ OkMode Idle ∷ OkMode Normal ∷ OkMode Fast ∷ NoMode 3000001 ∷ NoMode 4294968295 ∷ OkMode Fast ∷ Ok ∷ OkMode Fast ∷ NoMode 3000001 ∷ OkMode Idle ∷ OkTime 0 ∷ []
unfolding with_byte byte_of with_field field_of values time_of suffices mode_of_load
by_loads = refl

-- two handles draw together, each once however often it has the rail enabled, and no more once it has given up the last enable
draw_together : load_answers (open_a ∷ open_b ∷ asks (Load a 30000) ∷ asks (Load b 30000) ∷ asks (ModeOf a) ∷ asks (Enable a) ∷ asks (Enable a) ∷ asks (ModeOf a) ∷ asks (Enable b) ∷ asks (ModeOf a)
    ∷ asks (Disable a) ∷ asks (ModeOf a) ∷ asks (Disable a) ∷ asks (ModeOf a) ∷ asks (Enable a) ∷ asks (ModeOf b) ∷ [])
    ≡ Ok ∷ Ok ∷ OkMode Idle ∷ OkMode Idle ∷ OkMode Idle ∷ OkTime 100 ∷ OkTime 0 ∷ OkMode Idle ∷ OkTime 0 ∷ OkMode Normal
    ∷ Ok ∷ OkMode Normal ∷ Ok ∷ OkMode Idle ∷ OkTime 0 ∷ OkMode Normal ∷ []
unfolding with_byte byte_of with_field field_of values time_of suffices mode_of_load
draw_together = refl

-- the mode is written before the on bit, and after it when the rail goes off; a mode that it has already isn't written
abbrev field_write : ℕ → ℕ → ℕ → Write
field_write reg mask bits = record { chip = 0; reg = reg; mask = mask; bits = bits }

abbrev writes_next : List Turn → Call → List Write
writes_next turns call = writes_of load_board (plan load_board (load_after turns) 1 call)

mode_first : writes_next (open_a ∷ asks (Load a 60000) ∷ []) (Enable a) ≡ field_write 0x30 3 1 ∷ field_write 0x20 1 1 ∷ []
unfolding with_byte byte_of with_field field_of values time_of suffices mode_of_load
mode_first = refl

mode_last : writes_next (open_a ∷ asks (Load a 60000) ∷ asks (Enable a) ∷ []) (Disable a) ≡ field_write 0x20 1 0 ∷ field_write 0x30 3 2 ∷ []
unfolding with_byte byte_of with_field field_of values time_of suffices mode_of_load
mode_last = refl

mode_kept : writes_next (open_a ∷ asks (Load a 40000) ∷ []) (Enable a) ≡ field_write 0x20 1 1 ∷ []
unfolding with_byte byte_of with_field field_of values time_of suffices mode_of_load
mode_kept = refl

-- the bus refuses the mode: the old load stands, and the enable isn't counted, but the disable stays given up
abbrev loads_of : Plain → List (ℕ × ℕ)
loads_of plain = map (λ entry. (entry.1.enables, entry.1.load)) plain.handles

abbrev load_cut : List Turn
load_cut = open_a ∷ asks (Enable a) ∷ asks (Load a 100) ∷ cut_after 0 (Load a 60000) ∷ asks (ModeOf a) ∷ []

load_was_cut : load_answers load_cut ≡ Ok ∷ OkTime 100 ∷ OkMode Idle ∷ Fault 0 0x30 0 [] ∷ OkMode Idle ∷ []
unfolding with_byte byte_of with_field field_of values time_of suffices mode_of_load
load_was_cut = refl

old_load_stands : loads_of (load_after load_cut) ≡ (1, 100) ∷ []
unfolding with_byte byte_of with_field field_of values time_of suffices mode_of_load
old_load_stands = refl

abbrev enable_cut : List Turn
enable_cut = open_a ∷ asks (Load a 60000) ∷ cut_after 1 (Enable a) ∷ asks (ModeOf a) ∷ asks (IsOn a) ∷ []

enable_was_cut : load_answers enable_cut ≡ Ok ∷ OkMode Idle ∷ Fault 0 0x20 1 [] ∷ OkMode Normal ∷ OkOn false ∷ []
unfolding with_byte byte_of with_field field_of values time_of suffices mode_of_load
enable_was_cut = refl

enable_not_counted : loads_of (load_after enable_cut) ≡ (0, 60000) ∷ []
unfolding with_byte byte_of with_field field_of values time_of suffices mode_of_load
enable_not_counted = refl

abbrev disable_cut : List Turn
disable_cut = open_a ∷ asks (Load a 60000) ∷ asks (Enable a) ∷ cut_after 1 (Disable a) ∷ asks (ModeOf a) ∷ asks (IsOn a) ∷ []

disable_was_cut : load_answers disable_cut ≡ Ok ∷ OkMode Idle ∷ OkTime 100 ∷ Fault 0 0x30 1 [] ∷ OkMode Normal ∷ OkOn false ∷ []
unfolding with_byte byte_of with_field field_of values time_of suffices mode_of_load
disable_was_cut = refl

disable_given_up : loads_of (load_after disable_cut) ≡ (0, 60000) ∷ []
unfolding with_byte byte_of with_field field_of values time_of suffices mode_of_load
disable_given_up = refl

-- a closed handle takes its load with it, and the mode follows at the next call that looks at it
closed_draws_nothing : load_answers (open_a ∷ open_b ∷ asks (Load a 60000) ∷ asks (Close a) ∷ asks (Enable b) ∷ asks (ModeOf b) ∷ asks (Open a (rail 0) false) ∷ asks (Enable a) ∷ asks (ModeOf a) ∷ [])
    ≡ Ok ∷ Ok ∷ OkMode Idle ∷ Ok ∷ OkTime 100 ∷ OkMode Idle ∷ Ok ∷ OkTime 0 ∷ OkMode Idle ∷ []
unfolding with_byte byte_of with_field field_of values time_of suffices mode_of_load
closed_draws_nothing = refl

-- where standby is allowed it carries 5000 µA
abbrev rest_board : Board
rest_board = record core_board { rails = record load_rail { limits = record load_rail.limits { allowed = record { 0 = 15 } } } ∷ [] }

rests : answers rest_board load_plain (open_a ∷ asks (Load a 4000) ∷ asks (ModeOf a) ∷ asks (Enable a) ∷ asks (ModeOf a) ∷ asks (Load a 4001) ∷ [])
    ≡ Ok ∷ OkMode Standby ∷ OkMode Standby ∷ OkTime 100 ∷ OkMode Standby ∷ OkMode Idle ∷ []
unfolding with_byte byte_of with_field field_of values time_of suffices mode_of_load
rests = refl

-- a rail without modes counts no loads, whatever is asked of it, and is in normal mode
abbrev plain_ldo : Rail
plain_ldo = record (rail_of (codes "ldo1") (ldo 3 usb_table 0x07) 1200000 3300000 None 0) { limits = record load_rail.limits { system_load = 4000000 } }

no_modes : answers (record core_board { rails = plain_ldo ∷ [] }) load_plain (open_a ∷ asks (Load a 5) ∷ asks (Enable a) ∷ asks (ModeOf a) ∷ []) ≡ Ok ∷ NotAllowed ∷ OkTime 50 ∷ OkMode Normal ∷ []
unfolding with_byte byte_of with_field field_of values time_of suffices mode_of_load
no_modes = refl

-- the mode in words
idle_and_fast : summary_text load_board (load_after (open_a ∷ asks (Enable a) ∷ [])) 1 2 ++ summary_text load_board (load_after (open_a ∷ asks (Enable a) ∷ asks (Load a 2000000) ∷ [])) 1 3
    ≡ lines (codes "rail buck1 on 800000 idle use 1 enables 1" ∷ codes "done 1 2" ∷ codes "rail buck1 on 800000 fast use 1 enables 1" ∷ codes "done 1 3" ∷ [])
unfolding with_byte byte_of with_field field_of values time_of suffices mode_of_load digits
idle_and_fast = refl
