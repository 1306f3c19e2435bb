-- What is refused of a board with the registers of a session, and what the session says of them.
use Rattle.std.specs.Prelude.{ℕ, Bool, ◌+◌, ◌||◌, nat_le, false, List, [], ◌∷◌, length, find, Option, Some, None}
use Rattle.std.specs.List.{enumerate_from, filter_map, list_any}
use Rattle.std.specs.Option.{option_map}
use Rattle.board_graph.specs.Sets.{rails_of}
use Rattle.board.specs.declared.board.Board.{Board}
use Rattle.board.specs.Rail.{counts_loads}
use Rattle.board_checks.specs.Rails.{is_coupled}
use Rattle.board_draft.specs.declared.drafted.Drafted.{Drafted}
use Rattle.board_load.specs.Registers.{with_bytes, reset_regs}
use Rattle.board_load.specs.Start.{no_vector}
use Rattle.dts_nodes.specs.Firsts.{first_of, when}
use Rattle.plain_board.specs.Stops.{Refusals}
use Rattle.session.specs.declared.fault.SessionFault.{SessionFault}
use Rattle.session.specs.declared.fault.SessionKind.{SessionKind}
use Rattle.session.specs.declared.fault.SessionKind.TheVariants.{NotYet, BadReg, NoVector}
use Rattle.session.specs.declared.setup.Setup.{Setup}
use Rattle.session.specs.declared.setup.Setup.TheVariants.{Register, Refusal}
use Rattle.session.specs.Frame.{Frame, board_lines}

-- the chip, the register and the content of a `%reg` line
abbrev pub register_in : Setup → Option (ℕ × ℕ × ℕ)
register_in (Register chip reg value) = Some (chip, reg, value)
register_in (Refusal worker update) = None

-- the worker and the update of a `%fault` line
abbrev pub refusal_in : Setup → Option (ℕ × ℕ)
refusal_in (Register chip reg value) = None
refusal_in (Refusal worker update) = Some (worker, update)

-- the plan of a session's faults
abbrev pub refusals_in : List Setup → Refusals
refusals_in setup = filter_map refusal_in setup

-- the registers that a session finds: those of a reset, with those of its `%reg` lines in their order
abbrev pub found_regs : Drafted → List Setup → List (List ℕ)
found_regs drafted setup = with_bytes (reset_regs drafted) (filter_map register_in setup)

-- the line names a chip that isn't on the board
abbrev pub names_no_chip : ℕ → Setup → Bool
names_no_chip chips (Register chip reg value) = nat_le chips chip
names_no_chip chips (Refusal worker update) = false

-- how many lines stand before the setup of a session
abbrev pub lines_before_setup : Frame → ℕ
lines_before_setup frame = 1 + length (board_lines frame.board)

-- the first `%reg` line of a chip that isn't on the board, in a setup behind so many lines
abbrev pub bad_register : ℕ → ℕ → List Setup → Option SessionFault
bad_register chips before setup =
    option_map (λ line. record { line = before + line.0 + 1; kind = BadReg })
    (find (λ line. names_no_chip chips line.1) (enumerate_from 0 setup))

-- a refusal at the line of the board
abbrev pub at_board : SessionKind → SessionFault
at_board kind = record { line = 2; kind = kind }

-- a board of a kind that isn't built yet: rails are coupled, or one is linked to its supply, or one counts loads
abbrev pub is_unbuilt : Board → Bool
is_unbuilt board =
    list_any (is_coupled board.graph) (rails_of board.graph)
    || list_any (λ link. link) board.graph.link
    || list_any counts_loads board.rails

-- the first refusal of a board with a setup that stands behind so many lines
abbrev pub setup_fault : ℕ → List Setup → Drafted → Option SessionFault
setup_fault before setup drafted =
    first_of (
    bad_register drafted.board.chips before setup
    ∷ when (is_unbuilt drafted.board) (at_board NotYet)
    ∷ option_map (λ r. at_board (NoVector r)) (no_vector drafted.board (found_regs drafted setup))
    ∷ [])

-- the first refusal of a session whose board was read
abbrev pub loading_fault : Frame → Drafted → Option SessionFault
loading_fault frame drafted = setup_fault (lines_before_setup frame) frame.setup drafted
