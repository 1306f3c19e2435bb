-- The counts of a rail, added up from the lists.
use Rattle.std.specs.Prelude.{ℕ, ◌+◌, ◌==◌, ◌&&◌, Bool, false, List, Option, Some, None, count_by, slice_get, unwrap_or}
use Rattle.board.specs.declared.board.Board.{Board}
use Rattle.board.specs.declared.rail.Rail.{Rail}
use Rattle.board.specs.declared.rail_id.RailId.{RailId}
use Rattle.board.specs.Rail.{is_on}
use Rattle.use_counts.specs.declared.handle_row.HandleRow.{HandleRow}
use Rattle.use_counts.specs.Counts.{enables_of, drawn_by, uses_of}
use Rattle.plain_board.specs.declared.plain.Plain.{Plain}
use Rattle.plain_board.specs.Handles.{rows_on}

-- the enables of all handles on rail i
abbrev pub enables : Plain → ℕ → ℕ
enables plain i = enables_of (rows_on plain.handles i)

-- what a rail with these handles carries: the load that no consumer tells, and what they draw
abbrev pub load_sum : Rail → List HandleRow → ℕ
load_sum rail rows = rail.limits.system_load + drawn_by rows

-- rail i is held on
abbrev pub is_held : Plain → ℕ → Bool
is_held plain i = unwrap_or (slice_get plain.holds i) false

-- rail i is the supply
abbrev pub is_supply : ℕ → Option RailId → Bool
is_supply i None = false
is_supply i (Some supply) = supply.0 == i

-- how many rails are on and have rail i as their supply
abbrev pub votes : Board → Plain → ℕ → ℕ
votes board plain i = count_by (λ rail. is_supply i rail.supply && is_on rail plain.regs) board.rails

-- the use count: the enables, the hold, and the votes of the rails that it supplies
abbrev pub use_count : Board → Plain → ℕ → ℕ
use_count board plain i = uses_of (rows_on plain.handles i) (is_held plain i) (votes board plain i)
