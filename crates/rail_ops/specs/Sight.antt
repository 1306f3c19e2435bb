-- What a worker has before it, and which plain boards that may be a part of.
use Rattle.std.specs.Prelude.{ℕ, ◌≡◌, List, Contains, length}
use Rattle.board.specs.declared.board.Board.{Board}
use Rattle.board.specs.declared.part.Part.{Part}
use Rattle.rows.specs.declared.call.Call.{Call}
use Rattle.use_counts.specs.Book.{Book}
use Rattle.use_counts.specs.Uses.{rail_named}
use Rattle.rail_state.specs.Sight.{Look}
use Rattle.plain_board.specs.declared.plain.Plain.{Plain}
use Rattle.plain_board.specs.Handles.{own, count_own}
use Rattle.plain_board.specs.Inv.{Inv}
use Rattle.plain_board.specs.Seen.{book, needs}
use Rattle.plain_board.specs.Untied.{HoldFields}

-- what some rails show: their board, their numbers, what is seen in the fields, and their books
pub record Hands : Type 0 where
  pub board : Board
  pub rails : List ℕ
  pub bits : ℕ → Part → ℕ
  pub books : ℕ → Book

-- what some rails show, by what their kind has for each
abbrev pub shown_by : {S : Type 0} → (S → Board) → (S → List ℕ) → (S → ℕ → Part → ℕ) → (S → ℕ → Book) → S → Hands
shown_by board rails bits books s = record { board = board s; rails = rails s; bits = bits s; books = books s }

-- they show the same as before
pub record ShowsSame (before after : Hands) : Type 0 where
  pub board : after.board ≡ before.board
  pub rails : after.rails ≡ before.rails
  pub bits : (i : ℕ) (part : Part) → after.bits i part ≡ before.bits i part
  pub books : (i : ℕ) → after.books i ≡ before.books i

-- a worker before the rails that it holds, with the names that it has open
pub record Place : Type 0 where
  pub hands : Hands
  pub names : List (List ℕ × ℕ)
  pub worker : ℕ

-- the same, part by part
abbrev pub placed : Hands → List (List ℕ × ℕ) → ℕ → Place
placed hands names worker = record { hands = hands; names = names; worker = worker }

-- all that they show is of this plain board
pub record Shows (hands : Hands) (plain : Plain) : Type 0 where
  -- the fields have the numbers that are seen
  pub fields : Look hands.board hands.rails hands.bits plain.regs
  -- the books are those of the rails held
  pub books : (i : ℕ) → Contains hands.rails i → hands.books i ≡ book hands.board plain i

-- these are the worker's names on this plain board
pub record Knows (names : List (List ℕ × ℕ)) (worker : ℕ) (plain : Plain) : Type 0 where
  -- each is open on its rail, and no other name of the worker is open
  pub rails : (name : List ℕ) → rail_named names name ≡ own plain worker name
  -- the worker has as many handles as names
  pub count : length names ≡ count_own plain.handles worker

-- the plain board may be the one before the worker: it is sound, and all that the worker has before it is of it
pub record MayBe (place : Place) (plain : Plain) : Type 0 where
  pub inv : Inv place.hands.board plain
  pub hold : HoldFields place.hands.board plain.regs
  pub shows : Shows place.hands plain
  pub knows : Knows place.names place.worker plain

-- the worker can make this call: there is a plain board that may be before it, and the rails that the call needs are held
pub record IsReady (place : Place) (call : Call) : Type 0 where
  pub plain : Plain
  pub may_be : MayBe place plain
  pub held : (i : ℕ) → Contains (needs place.hands.board plain place.worker call) i → Contains place.hands.rails i
