-- What is asked of the loads of a board.
use Rattle.std.specs.Prelude.{ℕ, Bool, ◌&&◌, find, slice_get, Option}
use Rattle.std.specs.Option.{is_none, option_map, option_map_or}
use Rattle.load_modes.specs.Modes.{mode_of_load}
use Rattle.board_graph.specs.Sets.{rails_of}
use Rattle.board.specs.declared.board.Board.{Board}
use Rattle.board.specs.declared.rail.Rail.{Rail}
use Rattle.board.specs.Rail.{counts_loads}
use Rattle.board_checks.specs.declared.fault.CheckFault.{CheckFault}
use Rattle.board_checks.specs.declared.fault.CheckFault.TheVariants.{LoadOverModes}
use Rattle.board_checks.specs.Rails.{tests_rail}

-- the rail counts loads, and no mode carries the load that no consumer tells
abbrev pub is_overloaded : Rail → Bool
is_overloaded rail = counts_loads rail && is_none (mode_of_load rail.desc.greatest rail.limits.allowed rail.limits.system_load)

-- the load of a rail that no consumer tells
abbrev pub load_at : Board → ℕ → ℕ
load_at board r = option_map_or (λ rail. rail.limits.system_load) (slice_get board.rails r) 0

-- what is wrong with the loads of a board
abbrev pub load_fault : Board → Option CheckFault
load_fault board = option_map (λ r. LoadOverModes r (load_at board r)) (find (tests_rail is_overloaded board) (rails_of board.graph))
