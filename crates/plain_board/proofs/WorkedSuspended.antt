-- Scripts that suspend a board, and that end the holds of its start, played by hand.
use Rattle.std.specs.Prelude.{◌≡◌, ℕ, true, false, List, [], ◌∷◌, map, take, Some, None, codes}
use Rattle.std.specs.Fmt.{digits}
use Rattle.std.proofs.Common.{refl}
use Rattle.linear_range.specs.Values.{values}
use Rattle.ramp_delay.specs.Times.{time_of}
use Rattle.load_modes.specs.declared.mode.Mode.TheVariants.{Normal}
use Rattle.load_modes.specs.Modes.{suffices, mode_of_load}
use Rattle.chip_regs.specs.Registers.{with_byte, byte_of, with_field, field_of}
use Rattle.board.specs.declared.board.Board.{Board}
use Rattle.board.specs.declared.state.State.TheVariants.{Standby as StandbyState, Mem, Disk}
use Rattle.board.specs.declared.write.Write.{Write}
use Rattle.board.proofs.Boards.{coupled_board, supplied_board}
use Rattle.rail_law.specs.Moves.{writes_of}
use Rattle.rows.specs.declared.answer.Answer.TheVariants.{Ok, OkTime, OkMode, OkUv, OkOn, OkList, OkYes, OkEvents, CountFull, StillEnabled, NoHandle, NotAllowed, Suspended, NotSuspended, Fault}
use Rattle.rows.specs.declared.call.Call.{Call}
use Rattle.rows.specs.declared.call.Call.TheVariants.{Open, Close, Enable, Disable, Set, Load, Get, IsOn, ModeOf, ListSel, Supported, Listen, Events, Suspend, Resume, ReleaseBoot}
use Rattle.use_counts.specs.declared.handle_row.HandleRow.{HandleRow}
use Rattle.plain_board.specs.declared.plain.Plain.{Plain}
use Rattle.plain_board.specs.Answer.{plan}
use Rattle.plain_board.specs.Text.{summary_text}
use Rattle.plain_board.proofs.Played.{Turn, asks, cut_after, answers, played, rail, chip_with, lines, a, b}
use Rattle.plain_board.proofs.PlayedBoards.{core_board, core_plain, pair_plain, load_board, load_plain, sleep_board, sleep_plain, booted_plain, always_board, always_plain, fork_board, fork_plain}

-- a suspended board refuses what would write, and before any other reason but that there is no handle
suspends : answers core_board core_plain (asks (Open a (rail 0) false) ∷ asks (Enable a) ∷ asks (Close a) ∷ asks (Suspend Mem) ∷ asks (Set a 800000 800000) ∷ asks Resume ∷ asks Resume
    ∷ asks (Disable a) ∷ asks (Close a) ∷ asks (Get a) ∷ [])
    ≡ Ok ∷ OkTime 100 ∷ StillEnabled 1 ∷ Ok ∷ Suspended ∷ Ok ∷ NotSuspended ∷ Ok ∷ Ok ∷ NoHandle ∷ []
unfolding with_byte byte_of with_field field_of values time_of suffices mode_of_load
suspends = refl

refused_first : answers load_board load_plain (asks (Suspend Disk) ∷ asks (Open a (rail 0) false) ∷ asks (Enable b) ∷ asks (Enable a) ∷ asks (Disable a) ∷ asks (Set a 2 1) ∷ asks (Set b 2 1)
    ∷ asks (Load a 2999001) ∷ asks (Suspend Mem) ∷ asks ReleaseBoot ∷ [])
    ≡ Ok ∷ Ok ∷ NoHandle ∷ Suspended ∷ Suspended ∷ Suspended ∷ NoHandle ∷ Suspended ∷ Suspended ∷ Suspended ∷ []
refused_first = refl

abbrev full : HandleRow
full = record { worker = 1; handle = a; enables = 65535; request = None; load = 0; cursor = None; exclusive = false }

not_allowed_later : answers core_board (record core_plain { suspended = true; handles = (rail 0, full) ∷ [] }) (asks (Load a 5) ∷ asks (Enable a) ∷ asks Resume ∷ asks (Load a 5) ∷ asks (Enable a) ∷ [])
    ≡ Suspended ∷ Suspended ∷ Ok ∷ NotAllowed ∷ CountFull 65535 ∷ []
not_allowed_later = refl

-- all other calls are as ever, and none of those that are refused leaves anything
others_as_ever : answers core_board core_plain (asks (Suspend Mem) ∷ asks (Open a (rail 0) false) ∷ asks (Set a 900000 900000) ∷ asks (Enable a) ∷ asks (Listen a) ∷ asks (Events a) ∷ asks (Get a) ∷ asks (IsOn a) ∷ asks (ModeOf a)
    ∷ asks (ListSel a 32) ∷ asks (Supported a 800000 800000) ∷ asks (Close a) ∷ asks Resume ∷ [])
    ≡ Ok ∷ Ok ∷ Suspended ∷ Suspended ∷ Ok ∷ OkEvents [] ∷ OkUv 800000 ∷ OkOn false ∷ OkMode Normal ∷ OkList (Some 800000) ∷ OkYes true ∷ Ok ∷ Ok ∷ []
unfolding with_byte byte_of with_field field_of values
others_as_ever = refl

-- each rail is told what to be in this state, in the order of the rails; what stands already, and what has no field, isn't written
abbrev field_write : ℕ → ℕ → ℕ → Write
field_write reg mask bits = record { chip = 0; reg = reg; mask = mask; bits = bits }

abbrev writes_next : List Turn → Call → List Write
writes_next turns call = writes_of sleep_board (plan sleep_board (played sleep_board sleep_plain turns) 1 call)

mem_writes : writes_next [] (Suspend Mem) ≡ field_write 0x21 1 0 ∷ field_write 0x21 2 2 ∷ field_write 0x41 0x7f 48 ∷ []
unfolding with_byte byte_of with_field field_of values
mem_writes = refl

standby_writes : writes_next [] (Suspend StandbyState) ≡ field_write 0x40 0x7f 40 ∷ []
unfolding with_byte byte_of with_field field_of values
standby_writes = refl

disk_writes : writes_next [] (Suspend Disk) ≡ field_write 0x42 3 1 ∷ []
unfolding with_byte byte_of with_field field_of values
disk_writes = refl

-- a resume writes nothing, so at the same suspend again there is nothing to write
mem_again : writes_next (asks (Suspend Mem) ∷ asks Resume ∷ []) (Suspend Mem) ≡ []
unfolding with_byte byte_of with_field field_of values
mem_again = refl

-- the bus refuses the second write: the first stands, and the board isn't suspended
abbrev suspend_cut : List Turn
suspend_cut = cut_after 1 (Suspend Mem) ∷ asks Resume ∷ asks (Suspend Mem) ∷ asks Resume ∷ []

suspend_was_cut : answers sleep_board sleep_plain suspend_cut ≡ Fault 0 0x21 1 [] ∷ NotSuspended ∷ Ok ∷ Ok ∷ []
unfolding with_byte byte_of with_field field_of values
suspend_was_cut = refl

abbrev sleep_bytes : Plain → List ℕ
sleep_bytes plain = map (byte_of plain.regs 0) (0x21 ∷ 0x40 ∷ 0x41 ∷ 0x42 ∷ 0x20 ∷ 0x10 ∷ [])

first_stands : sleep_bytes (played sleep_board sleep_plain (take 1 suspend_cut)) ≡ 4 ∷ 0 ∷ 0 ∷ 0 ∷ 0 ∷ 0x20 ∷ []
unfolding with_byte byte_of with_field field_of values
first_stands = refl

all_stand : sleep_bytes (played sleep_board sleep_plain suspend_cut) ≡ 6 ∷ 0 ∷ 48 ∷ 0 ∷ 0 ∷ 0x20 ∷ []
unfolding with_byte byte_of with_field field_of values
all_stand = refl

-- a rail that was found on is used by its hold, and goes off when the holds of the start end
abbrev found_on : Plain
found_on = record pair_plain { regs = chip_with ((0x10, 0x20) ∷ (0x11, 0x20) ∷ (0x20, 1) ∷ (0x30, 0x15) ∷ []) ∷ []; holds = true ∷ false ∷ [] }

held_text : summary_text coupled_board found_on 1 0
    ≡ lines (codes "rail buck1 on 800000 normal use 1 enables 0" ∷ codes "rail buck2 off 800000 normal use 0 enables 0" ∷ codes "done 1 0" ∷ [])
unfolding byte_of field_of values digits
held_text = refl

released : answers coupled_board found_on (asks ReleaseBoot ∷ asks ReleaseBoot ∷ []) ≡ Ok ∷ Ok ∷ []
unfolding with_byte byte_of with_field field_of values
released = refl

released_text : summary_text coupled_board (played coupled_board found_on (asks ReleaseBoot ∷ [])) 1 1
    ≡ lines (codes "rail buck1 off 800000 normal use 0 enables 0" ∷ codes "rail buck2 off 800000 normal use 0 enables 0" ∷ codes "done 1 1" ∷ [])
unfolding with_byte byte_of with_field field_of values digits
released_text = refl

-- a chain goes off from below; a rail that somebody has enabled stays on, and what supplies it
abbrev writes_by : Board → Plain → List Turn → List Write
writes_by board plain turns = writes_of board (plan board (played board plain turns) 1 ReleaseBoot)

chain_released : writes_by supplied_board booted_plain [] ≡ field_write 0x20 8 0 ∷ field_write 0x20 4 0 ∷ record { chip = 1; reg = 0; mask = 1; bits = 0 } ∷ []
unfolding with_byte byte_of with_field field_of values
chain_released = refl

buck_enabled : writes_by supplied_board booted_plain (asks (Open a (rail 0) false) ∷ asks (Enable a) ∷ []) ≡ field_write 0x20 8 0 ∷ []
unfolding with_byte byte_of with_field field_of values
buck_enabled = refl

-- it doesn't keep on what comes behind it
abbrev both_held : Plain
both_held = record fork_plain { regs = chip_with ((0x10, 0x20) ∷ (0x11, 0x20) ∷ (0x20, 3) ∷ (0x30, 0x15) ∷ []) ∷ chip_with ((0, 1) ∷ []) ∷ []; holds = true ∷ true ∷ true ∷ [] }

other_released : writes_by fork_board both_held (asks (Open a (rail 2) false) ∷ asks (Enable a) ∷ []) ≡ field_write 0x20 1 0 ∷ []
unfolding with_byte byte_of with_field field_of values
other_released = refl

-- a rail that is always on keeps its hold, and the battery its vote
always_released : summary_text always_board (played always_board always_plain (asks ReleaseBoot ∷ [])) 1 1
    ≡ lines (codes "rail vbat on 4200000 normal use 1 enables 0" ∷ codes "rail buck1 on 800000 normal use 1 enables 0" ∷ codes "rail buck2 off 800000 normal use 0 enables 0" ∷ codes "done 1 1" ∷ [])
unfolding with_byte byte_of with_field field_of values digits
always_released = refl

-- the bus refuses the second write: the holds stay ended, and what is on without use goes off at the next time
abbrev release_cut : List Turn
release_cut = cut_after 1 ReleaseBoot ∷ asks ReleaseBoot ∷ []

release_was_cut : answers supplied_board booted_plain release_cut ≡ Fault 0 0x20 1 [] ∷ Ok ∷ []
unfolding with_byte byte_of with_field field_of values
release_was_cut = refl

holds_ended : (played supplied_board booted_plain (take 1 release_cut)).holds ≡ false ∷ false ∷ false ∷ []
unfolding with_byte byte_of with_field field_of values
holds_ended = refl

one_released : summary_text supplied_board (played supplied_board booted_plain (take 1 release_cut)) 1 1
    ≡ lines (codes "rail buck3 on 1300000 normal use 0 enables 0" ∷ codes "rail ldo1 off 1200000 normal use 0 enables 0" ∷ codes "rail vbat on 5000000 normal use 1 enables 0" ∷ codes "done 1 1" ∷ [])
unfolding with_byte byte_of with_field field_of values digits
one_released = refl

all_released : summary_text supplied_board (played supplied_board booted_plain release_cut) 1 2
    ≡ lines (codes "rail buck3 off 1300000 normal use 0 enables 0" ∷ codes "rail ldo1 off 1200000 normal use 0 enables 0" ∷ codes "rail vbat off 5000000 normal use 0 enables 0" ∷ codes "done 1 2" ∷ [])
unfolding with_byte byte_of with_field field_of values digits
all_released = refl
