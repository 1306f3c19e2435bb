-- All rails of a board in one worker's hands.
use Rattle.std.specs.Prelude.{ℕ, ◌≡◌, ◌<◌, ◌&&◌, Bool, false, List, [], count_by, flat_map, length, map, slice_index, slice_index_or}
use Rattle.std.specs.List.{enumerate_from}
use Rattle.std.specs.Option.{option_map_or}
use Rattle.chip_regs.specs.Registers.{field_of}
use Rattle.board.specs.declared.board.Board.{Board}
use Rattle.board.specs.declared.event.Event.{Event}
use Rattle.board.specs.declared.part.Part.{Part}
use Rattle.board.specs.declared.rail.Rail.{Rail}
use Rattle.board.specs.Fields.{field_at}
use Rattle.board.specs.Rail.{is_on}
use Rattle.board.specs.Valid.{IsValid}
use Rattle.use_counts.specs.Book.{Book}
use Rattle.plain_board.specs.Counts.{is_supply}
use Rattle.plain_board.specs.Handles.{Entry, rows_on}
use Rattle.plain_board.specs.Untied.{HoldFields}

-- the number in the field of a part of rail i, and 0 where it has none
abbrev pub number_at : Board → List (List ℕ) → ℕ → Part → ℕ
number_at board regs i part = option_map_or (λ field. field_of regs field) (field_at board i part) 0

-- a book of which nothing is known
abbrev pub no_book : Book
no_book = record { rows = []; held = false; votes = 0; events = []; suspended = false }

-- the registers and the books are those of a valid board
pub record Fits (board : Board) (regs : List (List ℕ)) (books : List Book) : Type 0 where
  -- the board is valid
  pub valid : IsValid board
  -- each rail has a book
  pub as_many : length books ≡ length board.rails
  -- the registers hold the fields
  pub hold : HoldFields board regs
  -- and are those of the chips
  pub chips : length regs ≡ board.chips

-- how many of these rails are on and have rail i as their supply
abbrev pub votes_of : List Rail → List (List ℕ) → ℕ → ℕ
votes_of rails regs i = count_by (λ rail. is_supply i rail.supply && is_on rail regs) rails

-- the votes counted over these rails, for each of so many rails
pub record AreVotes (count : ℕ) (counted : List Rail) (regs : List (List ℕ)) (votes : List ℕ) : Type 0 where
  pub as_many : length votes ≡ count
  pub each : (i : ℕ) → i < count → slice_index votes i ≡ votes_of counted regs i

-- the book of rail i without handles
abbrev pub blank : List Bool → List ℕ → List (List Event) → Bool → ℕ → Book
blank holds votes events suspended i = record {
  rows = [];
  held = slice_index_or holds i false;
  votes = slice_index votes i;
  events = slice_index_or events i [];
  suspended = suspended;
}

-- so many books, each what is told of its rail
pub record AreBooks (count : ℕ) (told : ℕ → Book) (books : List Book) : Type 0 where
  pub as_many : length books ≡ count
  pub each : (i : ℕ) → i < count → slice_index_or books i no_book ≡ told i

-- a book with these handles on its rail
abbrev pub with_rows : List Book → List Entry → ℕ → Book
with_rows books handles i = record (slice_index_or books i no_book) { rows = rows_on handles i }

-- the handles of rail i, each with the rail
abbrev pub entries_of : ℕ × Book → List Entry
entries_of numbered = map (λ row. (record { 0 = numbered.0 }, row)) numbered.1.rows

-- all handles of these books, rail by rail
abbrev pub handles_in : List Book → List Entry
handles_in books = flat_map entries_of (enumerate_from 0 books)
