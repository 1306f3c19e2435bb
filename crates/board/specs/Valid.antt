-- Which boards are sound in themselves.
use Rattle.std.specs.Prelude.{ℕ, Bool, ◌≡◌, ◌≢◌, ◌<◌, ◌≤◌, ◌⊎◌, ◌&&◌, not, ◌==◌, nat_lt, true, false, [], map, length, slice_get, All, AllPairs, Option, None, Some, IfSome, IsSome}
use Rattle.std.specs.Option.{option_map, option_and_then}
use Rattle.chip_regs.specs.declared.field.Field.{Field}
use Rattle.chip_regs.specs.Field.{FitsField, SharesBit}
use Rattle.load_modes.specs.Modes.{mode_of_load}
use Rattle.board_graph.specs.Graph.{IsRailCount, IsAbove, AreCoupled}
use Rattle.board_graph.specs.Order.{IsOrder}
use Rattle.board.specs.declared.board.Board.{Board}
use Rattle.board.specs.declared.part.Part.{Part}
use Rattle.board.specs.declared.rail.Rail.{Rail}
use Rattle.board.specs.declared.sleep.Sleep.{Sleep}
use Rattle.board.specs.Table.{uv_of}
use Rattle.board.specs.Desc.{IsSoundDesc}
use Rattle.board.specs.Rail.{allowed, counts_loads}
use Rattle.board.specs.Fields.{field_at}
use Rattle.board.specs.Gaps.{HasNarrowGaps}

-- both bounds are given, and the least is below the greatest
abbrev pub is_span : Option (ℕ × ℕ) → Bool
is_span None = false
is_span (Some bounds) = nat_lt bounds.0 bounds.1

-- some selector that fits the field has the value
pub record HasSelector (rail : Rail) (field : Field) (uv : ℕ) : Type 0 where
  pub sel : ℕ
  pub value : uv_of rail.desc.table sel ≡ Some uv
  pub fits : FitsField field sel

-- the value that the rail is to have in a sleep is one of its table
abbrev pub SleepsWell : Rail → Option Sleep → Type 0
SleepsWell rail sleep =
    IfSome sleep (λ s. IfSome s.uv (λ uv. IfSome rail.desc.suspend_selector (λ field. HasSelector rail field uv)))

-- what holds of a rail by itself, on a board of so many chips
pub record IsSoundRail (chips : ℕ) (rail : Rail) : Type 0 where
  -- its description is sound
  pub desc : IsSoundDesc chips rail.desc
  -- it is marked changeable exactly where its bounds leave it room
  pub changeable : rail.changeable ≡ is_span rail.limits.bounds
  -- without a selector field its value never changes
  pub moves : rail.changeable ≡ true → IsSome rail.desc.selector
  -- each value that it is to have in a sleep has a selector that fits
  pub sleeps : All (SleepsWell rail) rail.limits.sleeps
  -- there is a value that it may stand at
  pub some_value : allowed rail ≢ []

-- if the rail counts loads, an allowed mode carries its system load
abbrev pub CarriesSystemLoad : Rail → Type 0
CarriesSystemLoad rail =
    counts_loads rail ≡ true → IsSome (mode_of_load rail.desc.greatest rail.limits.allowed rail.limits.system_load)

-- the supply's number
abbrev pub supply_of : Rail → Option ℕ
supply_of rail = option_map (λ s. s.0) rail.supply

-- the rail is there, and can change
abbrev pub changes : Option Rail → Bool
changes None = false
changes (Some rail) = rail.changeable

-- the rail's supply can change, and has to stay above it by a dropout
abbrev pub is_linked : Board → Rail → Bool
is_linked board rail = not (rail.desc.dropout == 0) && changes (option_and_then (λ s. slice_get board.rails s) (supply_of rail))

-- the graph says of supplies, groups and dropout links what the rails say
pub record IsGraphOf (board : Board) : Type 0 where
  pub supplies : board.graph.supply ≡ map supply_of board.rails
  pub groups : board.graph.group ≡ map (λ rail. rail.group) board.rails
  pub links : board.graph.link ≡ map (is_linked board) board.rails
  pub rails : All (λ rail. IfSome rail.supply (λ s. s.0 < length board.rails)) board.rails

-- a byte that is printed, and no blank
abbrev pub IsPrinted : ℕ → Type 0
IsPrinted byte = (0x21 ≤ byte) × (byte ≤ 0x7e)

-- no two rails have one name, and each byte of a name is printed
pub record HasNames (board : Board) : Type 0 where
  pub differ : AllPairs (λ a b. a.name.bytes ≢ b.name.bytes) board.rails
  pub printed : All (λ rail. All IsPrinted rail.name.bytes) board.rails

-- what holds of every board that was loaded, whatever its loads and its gaps
pub record IsSoundBoard (board : Board) : Type 0 where
  -- there is a rail
  pub some : 0 < length board.rails
  -- each rail has a number
  pub few : IsRailCount (length board.rails)
  -- each rail is sound
  pub rails : All (IsSoundRail board.chips) board.rails
  -- the graph is that of the rails
  pub graph : IsGraphOf board
  -- each rail's group has a spread
  pub spreads : All (λ rail. rail.group < length board.spread) board.rails
  -- the rails come up in the order of the graph
  pub order : IsOrder board.graph board.order
  -- no rail is coupled with its supply or a supply further up
  pub apart_from_supply : (upper lower : ℕ) → IsAbove board.graph upper lower → ¬ AreCoupled board.graph upper lower
  -- names tell the rails apart
  pub names : HasNames board
  -- no bit of a register is in two fields
  pub apart : (r s : ℕ) (part other : Part) (f g : Field) → (r ≢ s) ⊎ (part ≢ other)
      → field_at board r part ≡ Some f → field_at board s other ≡ Some g → ¬ SharesBit f g

-- what holds of a board by itself; all that works on a board rests on it
pub record IsValid (board : Board) : Type 0 where
  -- it is sound
  pub sound : IsSoundBoard board
  -- each rail carries the load that no consumer tells
  pub loads : All CarriesSystemLoad board.rails
  -- a changeable rail reaches each of its values by steps that its limits allow
  pub gaps : (r : ℕ) (rail : Rail) → slice_get board.rails r ≡ Some rail → rail.changeable ≡ true → HasNarrowGaps board r rail
