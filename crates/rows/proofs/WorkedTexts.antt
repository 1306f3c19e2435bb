-- Lines worked out by hand: what is printed of each call, answer, event and write.
use Rattle.std.specs.Prelude.{◌≡◌, ℕ, ◌<◌, true, false, List, [], ◌∷◌, ◌++◌, Some, None, codes}
use Rattle.std.specs.Fmt.{digits}
use Rattle.std.proofs.Common.{refl, arith}
use Rattle.std.proofs.lemmas.List.Elements.{All-from_recursion}
use Rattle.arrayvec.specs.ArrayString.{ArrayString}
use Rattle.load_modes.specs.declared.mode.Mode.TheVariants.{Fast, Normal, Idle, Standby}
use Rattle.board.specs.declared.event.Event.TheVariants.{PreVoltageChange, VoltageChange, AbortVoltageChange, Enable as EnableEvent, PreDisable, Disable as DisableEvent, AbortDisable}
use Rattle.board.specs.declared.rail_id.RailId.{RailId}
use Rattle.board.specs.declared.state.State.TheVariants.{Standby as StandbyState, Mem, Disk}
use Rattle.board.specs.declared.write.Write.{Write}
use Rattle.board.proofs.Boards.{coupled_board}
use Rattle.rows.specs.declared.answer.Answer.{Answer}
use Rattle.rows.specs.declared.answer.Answer.TheVariants.{Ok, OkTime, OkSet, OkMode, OkUv, OkOn, OkList, OkYes, OkEvents, BadRange, NoValue, Unbalanced, CountFull, StillEnabled, Taken, HandleOpen, HandlesFull, NoHandle, NotAllowed, NoMode, NotListening, Suspended, NotSuspended, Fault}
use Rattle.rows.specs.declared.call.Call.{Call}
use Rattle.rows.specs.declared.call.Call.TheVariants.{Open, Close, Enable, Disable, Set, Load, Get, IsOn, ModeOf, ListSel, Supported, Listen, Events, Suspend, Resume, ReleaseBoot}
use Rattle.rows.specs.declared.row.Row.{Row}
use Rattle.rows.specs.CallText.{call_text}
use Rattle.rows.specs.AnswerText.{answer_text}
use Rattle.rows.specs.Row.{rail_name, row_text, NamesRail, HasRails}

-- two coupled bucks, buck1 and buck2, and a handle of the name cpu_0
abbrev rail : ℕ → RailId
rail n = record { 0 = n }

abbrev cpu : ArrayString
cpu = record { bytes = codes "cpu_0"; spare = [] }

-- the line of a call and the text of an answer, on this board
abbrev line : Call → List ℕ
line call = call_text (rail_name coupled_board) call

abbrev text : Answer → List ℕ
text answer = answer_text (rail_name coupled_board) answer

-- each call
open_line : line (Open cpu (rail 1) false) ≡ codes "open cpu_0 buck2"
open_line = refl

openx_line : line (Open cpu (rail 0) true) ≡ codes "openx cpu_0 buck1"
openx_line = refl

close_line : line (Close cpu) ≡ codes "close cpu_0"
close_line = refl

enable_line : line (Enable cpu) ≡ codes "enable cpu_0"
enable_line = refl

disable_line : line (Disable cpu) ≡ codes "disable cpu_0"
disable_line = refl

set_line : line (Set cpu 0 4294967295) ≡ codes "set cpu_0 0 4294967295"
unfolding digits
set_line = refl

load_line : line (Load cpu 49000) ≡ codes "load cpu_0 49000"
unfolding digits
load_line = refl

get_line : line (Get cpu) ≡ codes "get cpu_0"
get_line = refl

is_on_line : line (IsOn cpu) ≡ codes "ison cpu_0"
is_on_line = refl

mode_line : line (ModeOf cpu) ≡ codes "mode cpu_0"
mode_line = refl

list_line : line (ListSel cpu 64) ≡ codes "list cpu_0 64"
unfolding digits
list_line = refl

supported_line : line (Supported cpu 2 1) ≡ codes "supported cpu_0 2 1"
unfolding digits
supported_line = refl

listen_line : line (Listen cpu) ≡ codes "listen cpu_0"
listen_line = refl

events_line : line (Events cpu) ≡ codes "events cpu_0"
events_line = refl

suspend_lines : line (Suspend StandbyState) ++ line (Suspend Mem) ++ line (Suspend Disk) ≡ codes "suspend standbysuspend memsuspend disk"
suspend_lines = refl

resume_line : line Resume ≡ codes "resume"
resume_line = refl

release_line : line ReleaseBoot ≡ codes "release-boot"
release_line = refl

-- each answer of a call that was done
ok_text : text Ok ≡ codes "ok"
ok_text = refl

time_text : text (OkTime 150) ≡ codes "ok 150"
unfolding digits
time_text = refl

set_text : text (OkSet 906250 9) ≡ codes "ok 906250 9"
unfolding digits
set_text = refl

mode_texts : text (OkMode Fast) ++ text (OkMode Normal) ++ text (OkMode Idle) ++ text (OkMode Standby) ≡ codes "ok fastok normalok idleok standby"
mode_texts = refl

uv_text : text (OkUv 906250) ≡ codes "ok 906250"
unfolding digits
uv_text = refl

on_texts : text (OkOn true) ++ text (OkOn false) ≡ codes "ok onok off"
on_texts = refl

listed_text : text (OkList (Some 1000000)) ≡ codes "ok 1000000"
unfolding digits
listed_text = refl

unlisted_text : text (OkList None) ≡ codes "ok none"
unlisted_text = refl

yes_texts : text (OkYes true) ++ text (OkYes false) ≡ codes "ok yesok no"
yes_texts = refl

no_events : text (OkEvents []) ≡ codes "ok 0"
unfolding digits
no_events = refl

voltage_events : text (OkEvents (PreVoltageChange 800000 906250 ∷ VoltageChange 906250 ∷ AbortVoltageChange 806250 ∷ []))
    ≡ codes "ok 3; pre-voltage-change 800000 906250; voltage-change 906250; abort-voltage-change 806250"
unfolding digits
voltage_events = refl

switch_events : text (OkEvents (EnableEvent ∷ PreDisable ∷ DisableEvent ∷ AbortDisable ∷ []))
    ≡ codes "ok 4; enable; pre-disable; disable; abort-disable"
unfolding digits
switch_events = refl

-- each refusal
bad_range : text (BadRange 900000 899999) ≡ codes "badrange 900000 899999"
unfolding digits
bad_range = refl

no_value : text NoValue ≡ codes "novalue"
no_value = refl

unbalanced : text (Unbalanced 0) ≡ codes "unbalanced 0"
unfolding digits
unbalanced = refl

count_full : text (CountFull 65535) ≡ codes "countfull 65535"
unfolding digits
count_full = refl

still_enabled : text (StillEnabled 1) ≡ codes "stillenabled 1"
unfolding digits
still_enabled = refl

taken : text (Taken 1) ≡ codes "taken 1"
unfolding digits
taken = refl

handle_open : text HandleOpen ≡ codes "handleopen"
handle_open = refl

handles_full : text (HandlesFull 64) ≡ codes "handlesfull 64"
unfolding digits
handles_full = refl

no_handle : text NoHandle ≡ codes "nohandle"
no_handle = refl

not_allowed : text NotAllowed ≡ codes "notallowed"
not_allowed = refl

no_mode : text (NoMode 4294968295) ≡ codes "nomode 4294968295"
unfolding digits
no_mode = refl

not_listening : text NotListening ≡ codes "notlistening"
not_listening = refl

suspended : text Suspended ≡ codes "suspended"
suspended = refl

not_suspended : text NotSuspended ≡ codes "notsuspended"
not_suspended = refl

-- a fault at the first update, and one after updates that changed two rails
fault_text : text (Fault 0 32 0 []) ≡ codes "fault 0 0x20 0"
unfolding digits
fault_text = refl

later_fault : text (Fault 1 175 2 ((rail 0, 806250) ∷ (rail 1, 812500) ∷ [])) ≡ codes "fault 1 0xaf 2 buck1 806250 buck2 812500"
unfolding digits
later_fault = refl

-- a row of the second worker, without its writes and with them
abbrev set_row : List Write → Row
set_row writes = record { worker = 2; line = 7; call = Set cpu 806251 820000; answer = OkSet 812500 1; writes = writes }

abbrev to_selector : ℕ → Write
to_selector bits = record { chip = 0; reg = 0x10; mask = 0x7f; bits = bits }

row_line : row_text coupled_board (set_row []) ≡ codes "2 7 set cpu_0 806251 820000 -> ok 812500 1" ++ 10 ∷ []
unfolding digits
row_line = refl

row_lines : row_text coupled_board (set_row (to_selector 33 ∷ to_selector 9 ∷ []))
    ≡ (codes "2 7 set cpu_0 806251 820000 -> ok 812500 1" ++ 10 ∷ []) ++ (codes "+ 0 0x10 0x7f 0x21" ++ 10 ∷ []) ++ (codes "+ 0 0x10 0x7f 0x09" ++ 10 ∷ [])
unfolding digits
row_lines = refl

-- the board has two rails
names_last : NamesRail coupled_board (Open cpu (rail 1) false)
names_last = omega arith

names_none : ¬ NamesRail coupled_board (Open cpu (rail 2) false)
names_none inside = absurd (omega (arith, inside))

tells_last : HasRails coupled_board (Fault 0 16 1 ((rail 0, 806250) ∷ (rail 1, 806250) ∷ []))
tells_last = All-from_recursion (λ (at : RailId × ℕ). at.0.0 < 2) ((rail 0, 806250) ∷ (rail 1, 806250) ∷ []) (omega arith, (omega arith, tt))

tells_none : ¬ HasRails coupled_board (Fault 0 16 1 ((rail 2, 806250) ∷ []))
tells_none inside = absurd (omega (arith, inside 0 (rail 2, 806250) (omega arith)))
