-- What a call sees of a plain board under the locks that it takes.
use Rattle.std.specs.Prelude.{ℕ, ◌≡◌, ◌||◌, nat_le, List, [], ◌∷◌, Contains, slice_index_or, Option, option_map, is_some, if◌then◌else◌}
use Rattle.std.specs.Option.{option_map_or}
use Rattle.board_graph.specs.Sets.{rails_of, guard_of, closure}
use Rattle.chip_regs.specs.Registers.{field_of}
use Rattle.board.specs.declared.board.Board.{Board}
use Rattle.board.specs.declared.part.Part.{Part}
use Rattle.board.specs.Fields.{field_at}
use Rattle.rows.specs.declared.call.Call.{Call}
use Rattle.rows.specs.declared.call.Call.TheVariants.{Open, Close, Enable, Disable, Set, Load, Get, IsOn, ModeOf, ListSel, Supported, Listen, Events, Suspend, Resume, ReleaseBoot}
use Rattle.use_counts.specs.Book.{Book}
use Rattle.plain_board.specs.declared.plain.Plain.{Plain}
use Rattle.plain_board.specs.Handles.{own, count_own, rows_on}
use Rattle.plain_board.specs.Counts.{is_held, votes}
use Rattle.plain_board.specs.Refusals.{most_handles}

-- the book of rail i
abbrev pub book : Board → Plain → ℕ → Book
book board plain i = record {
  rows = rows_on plain.handles i;
  held = is_held plain i;
  votes = votes board plain i;
  events = slice_index_or plain.events i [];
  suspended = plain.suspended;
}

-- the number in the field of a part of rail i, where it has one
abbrev pub bits_at : Board → List (List ℕ) → ℕ → Part → Option ℕ
bits_at board regs i part = option_map (λ field. field_of regs field) (field_at board i part)

-- two plain boards look the same under the locks of these rails: they have the same books of them, and
-- the same fields of each rail that one of them guards
pub record LookSame (board : Board) (rails : List ℕ) (plain other : Plain) : Type 0 where
  pub books : (i : ℕ) → Contains rails i → book board plain i ≡ book board other i
  pub fields : (i j : ℕ) (part : Part) → Contains rails i → Contains (guard_of board.graph j) i
      → bits_at board plain.regs j part ≡ bits_at board other.regs j part

-- the rails that the call of an open handle needs, where there is one
abbrev pub needs_of_open : (ℕ → List ℕ) → Plain → ℕ → List ℕ → List ℕ
needs_of_open rails plain worker name = option_map_or rails (own plain worker name) []

-- the rail alone
abbrev pub alone : ℕ → List ℕ
alone i = i ∷ []

-- the rails whose locks a call needs: none where it is refused for what its worker alone knows
abbrev pub needs : Board → Plain → ℕ → Call → List ℕ
needs board plain worker (Open handle rail exclusive) =
    if is_some (own plain worker handle.bytes) || nat_le most_handles (count_own plain.handles worker) then [] else rail.0 ∷ []
needs board plain worker (Close handle) = needs_of_open alone plain worker handle.bytes
needs board plain worker (Enable handle) = needs_of_open (closure board.graph) plain worker handle.bytes
needs board plain worker (Disable handle) = needs_of_open (closure board.graph) plain worker handle.bytes
needs board plain worker (Set handle lo hi) = needs_of_open (closure board.graph) plain worker handle.bytes
needs board plain worker (Load handle ua) = needs_of_open (closure board.graph) plain worker handle.bytes
needs board plain worker (Get handle) = needs_of_open alone plain worker handle.bytes
needs board plain worker (IsOn handle) = needs_of_open alone plain worker handle.bytes
needs board plain worker (ModeOf handle) = needs_of_open alone plain worker handle.bytes
needs board plain worker (ListSel handle sel) = needs_of_open alone plain worker handle.bytes
needs board plain worker (Supported handle lo hi) = needs_of_open alone plain worker handle.bytes
needs board plain worker (Listen handle) = needs_of_open alone plain worker handle.bytes
needs board plain worker (Events handle) = needs_of_open alone plain worker handle.bytes
needs board plain worker (Suspend state) = rails_of board.graph
needs board plain worker Resume = rails_of board.graph
needs board plain worker ReleaseBoot = rails_of board.graph
