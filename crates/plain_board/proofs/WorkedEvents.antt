-- Scripts that listen to what rails do, played by hand.
use Rattle.std.specs.Prelude.{◌≡◌, false, List, [], ◌∷◌, ◌++◌, replicate, Some, None}
use Rattle.std.proofs.Common.{refl}
use Rattle.linear_range.specs.Values.{values}
use Rattle.ramp_delay.specs.Times.{time_of}
use Rattle.load_modes.specs.Modes.{suffices, mode_of_load}
use Rattle.chip_regs.specs.Registers.{with_byte, byte_of, with_field, field_of}
use Rattle.board.specs.declared.board.Board.{Board}
use Rattle.board.specs.declared.event.Event.{Event}
use Rattle.board.specs.declared.event.Event.TheVariants.{PreVoltageChange, VoltageChange, AbortVoltageChange, Enable as EnableEvent, PreDisable, Disable as DisableEvent, AbortDisable}
use Rattle.board.specs.declared.state.State.TheVariants.{Mem, Disk}
use Rattle.board.proofs.Boards.{coupled_board, supplied_board}
use Rattle.rows.specs.declared.answer.Answer.TheVariants.{Ok, OkTime, OkSet, OkEvents, NoValue, NotListening}
use Rattle.rows.specs.declared.call.Call.TheVariants.{Open, Enable, Disable, Set, Load, Listen, Events, Suspend, Resume, ReleaseBoot}
use Rattle.plain_board.specs.declared.plain.Plain.{Plain}
use Rattle.plain_board.proofs.Played.{Turn, asks, cut_after, other_asks, answers, played, rail, a, b}
use Rattle.plain_board.proofs.PlayedBoards.{core_board, core_plain, pair_plain, trio_board, trio_plain, chain_plain, load_board, load_plain, sleep_board, sleep_plain, booted_plain}

abbrev listens : List Turn
listens = asks (Open a (rail 0) false) ∷ asks (Listen a) ∷ []

-- the events since the cursor, once; a handle that doesn't listen is told none
heard_once : answers core_board core_plain (listens ++ asks (Set a 900001 950000) ∷ asks (Events a) ∷ asks (Events a) ∷ asks (Open b (rail 0) false) ∷ asks (Events b) ∷ [])
    ≡ Ok ∷ Ok ∷ OkSet 906250 9 ∷ OkEvents (PreVoltageChange 800000 906250 ∷ VoltageChange 906250 ∷ []) ∷ OkEvents [] ∷ Ok ∷ NotListening ∷ []
unfolding with_byte byte_of with_field field_of values time_of
heard_once = refl

-- what was before isn't told, nor what a set does that moves nothing; who listens again hears nothing of before that
heard_later : answers core_board core_plain (asks (Open a (rail 0) false) ∷ asks (Set a 900001 950000) ∷ asks (Listen a) ∷ asks (Set a 900000 1000000) ∷ asks (Events a) ∷ asks (Set a 900001 950000)
    ∷ asks (Events a) ∷ asks (Enable a) ∷ asks (Listen a) ∷ asks (Disable a) ∷ asks (Events a) ∷ [])
    ≡ Ok ∷ OkSet 906250 9 ∷ Ok ∷ OkSet 900000 1 ∷ OkEvents (PreVoltageChange 906250 900000 ∷ VoltageChange 900000 ∷ []) ∷ OkSet 906250 1
    ∷ OkEvents (PreVoltageChange 900000 906250 ∷ VoltageChange 906250 ∷ []) ∷ OkTime 100 ∷ Ok ∷ Ok ∷ OkEvents (PreDisable ∷ DisableEvent ∷ []) ∷ []
unfolding with_byte byte_of with_field field_of values time_of
heard_later = refl

nothing_moved : answers core_board core_plain (listens ++ asks (Set a 800000 950000) ∷ asks (Set a 900001 906249) ∷ asks (Enable a) ∷ asks (Enable a) ∷ asks (Disable a) ∷ asks (Events a) ∷ [])
    ≡ Ok ∷ Ok ∷ OkSet 800000 0 ∷ NoValue ∷ OkTime 100 ∷ OkTime 0 ∷ Ok ∷ OkEvents (EnableEvent ∷ []) ∷ []
unfolding with_byte byte_of with_field field_of values time_of
nothing_moved = refl

-- each rail tells its own: a rail that another one pulls up, and one that has come where it had to when the other is stopped
abbrev told : Board → Plain → List Turn → List (List Event)
told board plain turns = (played board plain turns).events

abbrev sets : Turn
sets = asks (Set a 1000000 1000000)

both_told : told coupled_board pair_plain (listens ++ sets ∷ [])
    ≡ (PreVoltageChange 800000 1000000 ∷ VoltageChange 1000000 ∷ []) ∷ (PreVoltageChange 800000 900000 ∷ VoltageChange 900000 ∷ []) ∷ []
unfolding with_byte byte_of with_field field_of values time_of
both_told = refl

both_stopped : told coupled_board pair_plain (listens ++ cut_after 1 (Set a 1000000 1000000) ∷ [])
    ≡ (PreVoltageChange 800000 1000000 ∷ AbortVoltageChange 806250 ∷ []) ∷ (PreVoltageChange 800000 900000 ∷ AbortVoltageChange 800000 ∷ []) ∷ []
unfolding with_byte byte_of with_field field_of values time_of
both_stopped = refl

one_stopped : told coupled_board pair_plain (listens ++ cut_after 47 (Set a 1000000 1000000) ∷ [])
    ≡ (PreVoltageChange 800000 1000000 ∷ AbortVoltageChange 993750 ∷ []) ∷ (PreVoltageChange 800000 900000 ∷ VoltageChange 900000 ∷ []) ∷ []
unfolding with_byte byte_of with_field field_of values time_of
one_stopped = refl

none_of_the_third : told trio_board trio_plain (listens ++ asks (Set a 900001 1000000) ∷ [])
    ≡ (PreVoltageChange 800000 906250 ∷ VoltageChange 906250 ∷ []) ∷ (PreVoltageChange 800000 806250 ∷ VoltageChange 806250 ∷ []) ∷ [] ∷ []
unfolding with_byte byte_of with_field field_of values time_of
none_of_the_third = refl

-- an on bit that is refused tells nothing, and an off bit that is refused tells that it was tried
abbrev chain_told : List Turn → List (List Event)
chain_told turns = told supplied_board chain_plain turns

abbrev enables_chain : Turn
enables_chain = asks (Enable a)

abbrev open_ldo : Turn
open_ldo = asks (Open a (rail 1) false)

all_went_on : chain_told (open_ldo ∷ enables_chain ∷ []) ≡ (EnableEvent ∷ []) ∷ (EnableEvent ∷ []) ∷ (EnableEvent ∷ []) ∷ []
unfolding with_byte byte_of with_field field_of values time_of
all_went_on = refl

battery_went_on : chain_told (open_ldo ∷ cut_after 1 (Enable a) ∷ []) ≡ [] ∷ [] ∷ (EnableEvent ∷ []) ∷ []
unfolding with_byte byte_of with_field field_of values time_of
battery_went_on = refl

off_refused : chain_told (open_ldo ∷ enables_chain ∷ cut_after 1 (Disable a) ∷ [])
    ≡ (EnableEvent ∷ PreDisable ∷ AbortDisable ∷ []) ∷ (EnableEvent ∷ PreDisable ∷ DisableEvent ∷ []) ∷ (EnableEvent ∷ []) ∷ []
unfolding with_byte byte_of with_field field_of values time_of
off_refused = refl

off_refused_again : chain_told (open_ldo ∷ enables_chain ∷ cut_after 1 (Disable a) ∷ enables_chain ∷ asks (Disable a) ∷ [])
    ≡ (EnableEvent ∷ PreDisable ∷ AbortDisable ∷ PreDisable ∷ DisableEvent ∷ [])
    ∷ (EnableEvent ∷ PreDisable ∷ DisableEvent ∷ EnableEvent ∷ PreDisable ∷ DisableEvent ∷ []) ∷ (EnableEvent ∷ PreDisable ∷ DisableEvent ∷ []) ∷ []
unfolding with_byte byte_of with_field field_of values time_of
off_refused_again = refl

-- the end of the holds tells as a disable does; modes and suspends tell nothing
released_told : told supplied_board booted_plain (cut_after 2 ReleaseBoot ∷ [])
    ≡ (PreDisable ∷ DisableEvent ∷ []) ∷ (PreDisable ∷ DisableEvent ∷ []) ∷ (PreDisable ∷ AbortDisable ∷ []) ∷ []
unfolding with_byte byte_of with_field field_of values
released_told = refl

suspended_tells_nothing : told sleep_board sleep_plain (asks (Suspend Mem) ∷ asks Resume ∷ cut_after 0 (Suspend Disk) ∷ []) ≡ [] ∷ [] ∷ [] ∷ [] ∷ []
unfolding with_byte byte_of with_field field_of values
suspended_tells_nothing = refl

loads_tell_nothing : told load_board load_plain (asks (Open a (rail 0) false) ∷ asks (Enable a) ∷ asks (Load a 60000) ∷ cut_after 0 (Load a 2000000) ∷ []) ≡ (EnableEvent ∷ []) ∷ []
unfolding with_byte byte_of with_field field_of values suffices mode_of_load
loads_tell_nothing = refl

-- 64 events at a time, the oldest first
abbrev much_heard : Plain
much_heard = record core_plain {
  handles = (rail 0, record { worker = 1; handle = a; enables = 0; request = None; load = 0; cursor = Some 2; exclusive = false }) ∷ [];
  events = (DisableEvent ∷ PreDisable ∷ VoltageChange 1 ∷ replicate 63 EnableEvent ++ VoltageChange 2 ∷ VoltageChange 3 ∷ []) ∷ [];
}

two_portions : answers core_board much_heard (asks (Events a) ∷ asks (Events a) ∷ asks (Events a) ∷ [])
    ≡ OkEvents (VoltageChange 1 ∷ replicate 63 EnableEvent) ∷ OkEvents (VoltageChange 2 ∷ VoltageChange 3 ∷ []) ∷ OkEvents [] ∷ []
two_portions = refl

-- two handles hear apart, and on two rails
hear_apart : answers coupled_board pair_plain (listens ++ asks (Open b (rail 1) false) ∷ asks (Listen b) ∷ other_asks (Open a (rail 1) false) ∷ asks (Enable a) ∷ asks (Events b) ∷ asks (Enable b)
    ∷ asks (Events a) ∷ asks (Events b) ∷ other_asks (Events a) ∷ [])
    ≡ Ok ∷ Ok ∷ Ok ∷ Ok ∷ Ok ∷ OkTime 100 ∷ OkEvents [] ∷ OkTime 100 ∷ OkEvents (EnableEvent ∷ []) ∷ OkEvents (EnableEvent ∷ []) ∷ NotListening ∷ []
unfolding with_byte byte_of with_field field_of values time_of
hear_apart = refl
