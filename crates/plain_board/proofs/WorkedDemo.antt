-- Scripts on the board of one rail, played by hand.
use Rattle.std.specs.Prelude.{◌≡◌, ℕ, true, false, List, [], ◌∷◌, length, replicate, Some, None, codes}
use Rattle.std.specs.Fmt.{digits}
use Rattle.std.proofs.Common.{refl}
use Rattle.linear_range.specs.Values.{values}
use Rattle.ramp_delay.specs.Times.{time_of}
use Rattle.load_modes.specs.declared.mode.Mode.TheVariants.{Normal}
use Rattle.chip_regs.specs.Registers.{with_byte, byte_of, with_field, field_of}
use Rattle.board.specs.declared.rail.Rail.{Rail}
use Rattle.rows.specs.declared.answer.Answer.{Answer}
use Rattle.rows.specs.declared.answer.Answer.TheVariants.{Ok, OkTime, OkSet, OkMode, OkUv, OkOn, OkList, OkYes, BadRange, NoValue, NoHandle, NotAllowed}
use Rattle.rows.specs.declared.call.Call.{Call}
use Rattle.rows.specs.declared.call.Call.TheVariants.{Open, Close, Enable, Disable, Set, Load, Get, IsOn, ModeOf, ListSel, Supported, Listen, Events}
use Rattle.rows.specs.declared.row.Row.{Row}
use Rattle.plain_board.specs.declared.plain.Plain.{Plain}
use Rattle.plain_board.specs.Answer.{answer, plan}
use Rattle.plain_board.specs.Text.{summary_text, printed}
use Rattle.plain_board.proofs.Played.{Turn, asks, answers, played, rail, lines, a, b}
use Rattle.plain_board.proofs.PlayedBoards.{core_rail, core_board, core_plain}

abbrev open_a : Turn
open_a = asks (Open a (rail 0) false)

abbrev core_answers : List Turn → List Answer
core_answers turns = answers core_board core_plain turns

-- what is printed of a row that has kept no writes
abbrev row : ℕ → Call → Answer → Row
row line call answer = record { worker = 1; line = line; call = call; answer = answer; writes = [] }

-- no call at all
nothing_done : summary_text core_board core_plain 1 0 ≡ lines (codes "rail core off 800000 normal use 0 enables 0" ∷ codes "done 1 0" ∷ [])
unfolding byte_of field_of values digits
nothing_done = refl

-- the least value that meets the request, and its time by the ramp
abbrev sets_and_gets : List Turn
sets_and_gets = open_a ∷ asks (Set a 900001 950000) ∷ asks (Get a) ∷ []

set_is_got : core_answers sets_and_gets ≡ Ok ∷ OkSet 906250 9 ∷ OkUv 906250 ∷ []
unfolding with_byte byte_of with_field field_of values time_of
set_is_got = refl

set_printed : printed core_board core_plain (row 1 (Open a (rail 0) false) Ok ∷ row 2 (Set a 900001 950000) (OkSet 906250 9) ∷ row 3 (Get a) (OkUv 906250) ∷ []) 1
    ≡ lines (codes "1 1 open a core -> ok" ∷ codes "1 2 set a 900001 950000 -> ok 906250 9" ∷ codes "1 3 get a -> ok 906250"
    ∷ codes "rail core off 906250 normal use 0 enables 0" ∷ codes "done 1 3" ∷ [])
unfolding with_byte byte_of with_field field_of values digits time_of
set_printed = refl

-- a request between two values, at one value, turned round, half above the bounds, and wholly above them
between : core_answers (open_a ∷ asks (Set a 900001 906249) ∷ []) ≡ Ok ∷ NoValue ∷ []
unfolding with_byte byte_of with_field field_of values time_of
between = refl

exactly : core_answers (open_a ∷ asks (Set a 906250 906250) ∷ []) ≡ Ok ∷ OkSet 906250 9 ∷ []
unfolding with_byte byte_of with_field field_of values time_of
exactly = refl

turned_round : core_answers (open_a ∷ asks (Set a 900000 899999) ∷ []) ≡ Ok ∷ BadRange 900000 899999 ∷ []
unfolding with_byte byte_of with_field field_of values time_of
turned_round = refl

half_above : core_answers (open_a ∷ asks (Set a 990000 2000000) ∷ []) ≡ Ok ∷ OkSet 993750 16 ∷ []
unfolding with_byte byte_of with_field field_of values time_of
half_above = refl

above : core_answers (open_a ∷ asks (Set a 1000001 1100000) ∷ asks (Set a 1000000 4294967295) ∷ []) ≡ Ok ∷ NoValue ∷ OkSet 1000000 16 ∷ []
unfolding with_byte byte_of with_field field_of values time_of
above = refl

-- two handles bind together, and a handle's new request takes the place of its old one
both_bind : core_answers (open_a ∷ asks (Open b (rail 0) false) ∷ asks (Set a 850000 900000) ∷ asks (Set b 900001 950000) ∷ asks (Set b 900000 950000) ∷ [])
    ≡ Ok ∷ Ok ∷ OkSet 850000 4 ∷ NoValue ∷ OkSet 900000 4 ∷ []
unfolding with_byte byte_of with_field field_of values time_of
both_bind = refl

old_gives_way : core_answers (open_a ∷ asks (Set a 850000 900000) ∷ asks (Set a 806251 820000) ∷ []) ≡ Ok ∷ OkSet 850000 4 ∷ OkSet 812500 3 ∷ []
unfolding with_byte byte_of with_field field_of values time_of
old_gives_way = refl

-- a handle's request binds though it has no enable, and no more once it is closed; closing moves nothing
bound_till_closed : core_answers (open_a ∷ asks (Open b (rail 0) false) ∷ asks (Set a 850000 900000) ∷ asks (Close a) ∷ asks (Get b) ∷ asks (Set b 800000 806250) ∷ asks (Get a) ∷ [])
    ≡ Ok ∷ Ok ∷ OkSet 850000 4 ∷ Ok ∷ OkUv 850000 ∷ OkSet 800000 4 ∷ NoHandle ∷ []
unfolding with_byte byte_of with_field field_of values time_of
bound_till_closed = refl

-- selectors of the bounds' ends, of values beyond them, and of none; ranges with no value, one value, and turned round
asked_what_is : core_answers (open_a ∷ asks (ListSel a 32) ∷ asks (ListSel a 31) ∷ asks (ListSel a 64) ∷ asks (ListSel a 65) ∷ asks (ListSel a 70000) ∷ asks (Supported a 900001 906249)
    ∷ asks (Supported a 900001 906250) ∷ asks (Supported a 906250 906250) ∷ asks (Supported a 2 1) ∷ asks (ModeOf a) ∷ asks (IsOn a) ∷ [])
    ≡ Ok ∷ OkList (Some 800000) ∷ OkList None ∷ OkList (Some 1000000) ∷ OkList None ∷ OkList None ∷ OkYes false ∷ OkYes true ∷ OkYes true ∷ OkYes false ∷ OkMode Normal ∷ OkOn false ∷ []
unfolding with_byte byte_of with_field field_of values time_of
asked_what_is = refl

-- each call on a handle asks first whether there is one
none_open : core_answers (asks (Close a) ∷ asks (Enable a) ∷ asks (Disable a) ∷ asks (Set a 2 1) ∷ asks (Load a 5) ∷ asks (Get a) ∷ asks (IsOn a) ∷ asks (ModeOf a) ∷ asks (ListSel a 1)
    ∷ asks (Supported a 2 1) ∷ asks (Listen a) ∷ asks (Events a) ∷ [])
    ≡ replicate 12 NoHandle
none_open = refl

-- loads don't choose this rail's mode
no_loads : core_answers (open_a ∷ asks (Load a 5) ∷ []) ≡ Ok ∷ NotAllowed ∷ []
unfolding with_byte byte_of with_field field_of values time_of
no_loads = refl

-- no update is made where the rail stands there already, or the call is refused
abbrev count_moves : Plain → Call → ℕ
count_moves plain call = length (plan core_board plain 1 call)

abbrev opened : Plain
opened = played core_board core_plain (open_a ∷ [])

moves_by_call : count_moves opened (Set a 900001 950000) ∷ count_moves opened (Set a 800000 900000) ∷ count_moves opened (Set a 900001 906249) ∷ count_moves opened (Get a) ∷ []
    ≡ 17 ∷ 0 ∷ 0 ∷ 0 ∷ []
unfolding with_byte byte_of with_field field_of values time_of
moves_by_call = refl

-- the board's own time of coming up counts before the chip's
abbrev slow_rail : Rail
slow_rail = record core_rail { limits = record core_rail.limits { enable_ramp = 250 } }

comes_up_slowly : answers (record core_board { rails = slow_rail ∷ [] }) core_plain (open_a ∷ asks (Enable a) ∷ asks (Enable a) ∷ []) ≡ Ok ∷ OkTime 250 ∷ OkTime 0 ∷ []
unfolding with_byte byte_of with_field field_of values
comes_up_slowly = refl
