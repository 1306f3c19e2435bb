-- Which moves a call makes, if the bus refuses none.
use Rattle.std.specs.Prelude.{ℕ, zero, suc, ◌+◌, ◌-◌, ◌==◌, ◌&&◌, Bool, false, not, List, [], ◌∷◌, ◌++◌, map, filter, flat_map, find, length, slice_get, zip, reverse, Option, Some, None, option_map, if◌then◌else◌}
use Rattle.std.specs.List.{enumerate_from}
use Rattle.std.specs.Option.{option_map_or}
use Rattle.chip_regs.specs.declared.field.Field.{Field}
use Rattle.chip_regs.specs.Registers.{field_of}
use Rattle.load_modes.specs.declared.mode.Mode.{Mode}
use Rattle.load_modes.specs.declared.mode.Mode.TheVariants.{Fast, Normal, Idle, Standby}
use Rattle.load_modes.specs.Modes.{mode_of_load}
use Rattle.board_graph.specs.declared.graph.Graph.{Graph}
use Rattle.board_graph.specs.Graph.{supply_at}
use Rattle.board.specs.declared.board.Board.{Board}
use Rattle.board.specs.declared.part.Part.{Part}
use Rattle.board.specs.declared.part.Part.TheVariants.{Enable as EnableBit, ModePart, SuspendEnable, SuspendSelector}
use Rattle.board.specs.declared.rail.Rail.{Rail}
use Rattle.board.specs.declared.rail_id.RailId.{RailId}
use Rattle.board.specs.declared.sleep.Sleep.{Sleep}
use Rattle.board.specs.declared.state.State.{State}
use Rattle.board.specs.declared.state.State.TheVariants.{Standby as StandbyState, Mem, Disk}
use Rattle.board.specs.Table.{values_of}
use Rattle.board.specs.Rail.{is_on, counts_loads}
use Rattle.rail_law.specs.BoardTies.{standing_values}
use Rattle.rail_law.specs.Moves.{Move, field_of_move, after_moves}
use Rattle.rail_law.specs.Way.{path}
use Rattle.rows.specs.declared.call.Call.{Call}
use Rattle.rows.specs.declared.call.Call.TheVariants.{Enable, Disable, Set, Load, Suspend, ReleaseBoot}
use Rattle.use_counts.specs.declared.handle_row.HandleRow.{HandleRow}
use Rattle.plain_board.specs.declared.plain.Plain.{Plain}
use Rattle.plain_board.specs.Handles.{Entry, open_of, rows_on, with_row, for_open}
use Rattle.plain_board.specs.Counts.{load_sum, use_count}
use Rattle.plain_board.specs.Requests.{goal_of}

-- a field holds another number; of a field that isn't there nothing is written
abbrev pub is_other : List (List ℕ) → ℕ → Option Field → Bool
is_other regs bits None = false
is_other regs bits (Some field) = not (field_of regs field == bits)

-- those of some moves that change their field
abbrev pub changing : Board → List (List ℕ) → List Move → List Move
changing board regs moves = filter (λ move. is_other regs move.bits (field_of_move board move)) moves

-- the number of a mode in a mode field
abbrev pub mode_number : Mode → ℕ
mode_number Fast = 0
mode_number Normal = 1
mode_number Idle = 2
mode_number Standby = 3

-- the move of a rail to the mode that carries a sum of loads, where loads choose it
abbrev pub mode_moves : RailId → Rail → ℕ → List Move
mode_moves id rail sum =
    if counts_loads rail
    then option_map_or (λ mode. record { rail = id; part = ModePart; bits = mode_number mode } ∷ []) (mode_of_load rail.desc.greatest rail.limits.allowed sum) []
    else []

-- a rail, its supply, the supply of that, and so on, so many at the most
abbrev pub upward : Graph → ℕ → Option ℕ → List ℕ
upward graph zero r = []
upward graph (suc most) None = []
upward graph (suc most) (Some r) = r ∷ upward graph most (supply_at graph r)

-- a rail and all supplies above it, from below
abbrev pub chain : Board → ℕ → List ℕ
chain board r = upward board.graph (length board.rails) (Some r)

-- a rail's on bit becomes this
abbrev pub switch : ℕ → ℕ → Move
switch bits r = record { rail = record { 0 = r }; part = EnableBit; bits = bits }

-- rail r is on and nothing uses it
abbrev pub is_idle : Board → Plain → ℕ → Bool
is_idle board plain r = option_map_or (λ rail. is_on rail plain.regs) (slice_get board.rails r) false && use_count board plain r == 0

-- the plain board with rail r switched off
abbrev pub with_off : Board → Plain → ℕ → Plain
with_off board plain r = record plain { regs = after_moves board plain.regs (switch 0 r ∷ []) }

-- the rails of a chain that go off, from below: as long as one is idle once those below it are off
abbrev pub chain_off : Board → Plain → List ℕ → List Move
chain_off board plain [] = []
chain_off board plain (r ∷ above) = if is_idle board plain r then switch 0 r ∷ chain_off board (with_off board plain r) above else []

-- the rails of a list that go off: each that is idle once those before it are off
abbrev pub sweep_off : Board → Plain → List ℕ → List Move
sweep_off board plain [] = []
sweep_off board plain (r ∷ rest) =
    if is_idle board plain r then switch 0 r ∷ sweep_off board (with_off board plain r) rest else sweep_off board plain rest

-- a handle with one enable more, and with one less
abbrev pub one_more : HandleRow → HandleRow
one_more row = record row { enables = row.enables + 1 }

abbrev pub one_less : HandleRow → HandleRow
one_less row = record row { enables = row.enables - 1 }

-- a handle with another load
abbrev pub with_load : ℕ → HandleRow → HandleRow
with_load ua row = record row { load = ua }

-- an enable: the mode for what the rail carries then, and the on bits of its chain, from above
abbrev pub enable_moves : Board → Plain → List Entry → RailId → Rail → HandleRow → List Move
enable_moves board plain counted id rail row =
    changing board plain.regs (mode_moves id rail (load_sum rail (rows_on counted id.0)) ++ reverse (map (switch 1) (chain board id.0)))

-- a disable, once the enable is given up: what is idle of the chain goes off, from below, and then the mode
abbrev pub disable_moves : Board → Plain → RailId → Rail → HandleRow → List Move
disable_moves board given_up id rail row =
    chain_off board given_up (chain board id.0)
    ++ changing board given_up.regs (mode_moves id rail (load_sum rail (rows_on given_up.handles id.0)))

-- a set: the way to its goal, where there is one
abbrev pub set_moves : Board → Plain → Option (List ℕ) → List Move
set_moves board plain None = []
set_moves board plain (Some goal) = path board (standing_values board plain.regs) goal

-- the selector of a table with a value, the first
abbrev pub table_selector : Rail → ℕ → Option ℕ
table_selector rail uv = option_map (λ pair. pair.0) (find (λ pair. pair.1 == uv) (values_of rail.desc.table))

-- which of a rail's sleeps belongs to a state
abbrev pub sleep_number : State → ℕ
sleep_number StandbyState = 0
sleep_number Mem = 1
sleep_number Disk = 2

-- a move for a number, where there is one
abbrev pub move_for : ℕ → Part → Option ℕ → List Move
move_for i part None = []
move_for i part (Some bits) = record { rail = record { 0 = i }; part = part; bits = bits } ∷ []

-- what a rail is to do in its sleep: be on or off, and have a value
abbrev pub sleep_moves : ℕ → Rail → Option Sleep → List Move
sleep_moves i rail None = []
sleep_moves i rail (Some sleep) =
    move_for i SuspendEnable (option_map (λ on. if on then 1 else 0) sleep.on)
    ++ move_for i SuspendSelector (option_map_or (table_selector rail) sleep.uv None)

-- a suspend: rail by rail what each is to do in this state
abbrev pub suspend_moves : Board → State → List Move
suspend_moves board state =
    flat_map (λ rail. sleep_moves rail.0 rail.1 (option_map_or (λ sleep. sleep) (slice_get rail.1.limits.sleeps (sleep_number state)) None))
    (enumerate_from 0 board.rails)

-- the holds that are left when those of the start end: those of the rails that are always on
abbrev pub always_holds : Board → List Bool → List Bool
always_holds board holds = map (λ held. held.0 && held.1.limits.always_on) (zip holds board.rails)

-- the handles after one of a worker's was given another row, by the row that it has
abbrev pub changed : Plain → ℕ → List ℕ → (HandleRow → HandleRow) → List Entry
changed plain worker name change = with_row plain.handles worker name change

-- the moves of a call that isn't refused
abbrev pub moves_of_call : Board → Plain → ℕ → Call → List Move
moves_of_call board plain worker (Enable handle) =
    for_open [] (enable_moves board plain (changed plain worker handle.bytes one_more)) board (open_of plain.handles worker handle.bytes)
moves_of_call board plain worker (Disable handle) =
    for_open [] (disable_moves board (record plain { handles = changed plain worker handle.bytes one_less })) board (open_of plain.handles worker handle.bytes)
moves_of_call board plain worker (Set handle lo hi) =
    for_open [] (λ id rail row. set_moves board plain (goal_of board plain worker handle.bytes id.0 (lo, hi))) board (open_of plain.handles worker handle.bytes)
moves_of_call board plain worker (Load handle ua) =
    for_open [] (λ id rail row. changing board plain.regs (mode_moves id rail (load_sum rail (rows_on (changed plain worker handle.bytes (with_load ua)) id.0))))
    board (open_of plain.handles worker handle.bytes)
moves_of_call board plain worker (Suspend state) = changing board plain.regs (suspend_moves board state)
moves_of_call board plain worker ReleaseBoot =
    sweep_off board (record plain { holds = always_holds board plain.holds }) (reverse board.order)
moves_of_call board plain worker _ = []
