-- A plain board while rails are switched, and what a rail that is switched changes before the worker.
use Rattle.std.specs.Prelude.{ℕ, ◌≡◌, ◌≢◌, ◌+◌, ◌-◌, List, [], ◌∷◌, ◌++◌, map, flat_map, true, Option, Some, option_map}
use Rattle.std.specs.List.{enumerate_from}
use Rattle.board_graph.specs.Graph.{supply_at}
use Rattle.board.specs.declared.board.Board.{Board}
use Rattle.board.specs.declared.event.Event.{Event}
use Rattle.board.specs.declared.event.Event.TheVariants.{Enable as TellsEnable, PreDisable as TellsPreDisable, Disable as TellsDisable}
use Rattle.board.specs.declared.part.Part.{Part}
use Rattle.board.specs.declared.part.Part.TheVariants.{Enable as EnableBit}
use Rattle.board.specs.declared.rail_id.RailId.{RailId}
use Rattle.use_counts.specs.Book.{Book}
use Rattle.rail_law.specs.Moves.{Move, after_moves}
use Rattle.plain_board.specs.declared.plain.Plain.{Plain}
use Rattle.plain_board.specs.Events.{events_of_move}
use Rattle.rail_ops.specs.Sight.{Hands}

-- the plain board after some moves that switch rails: the registers after them, and what each rail told of them
abbrev pub raised : Board → Plain → List Move → Plain
raised board plain moves = record plain {
  regs = after_moves board plain.regs moves;
  events = map (λ told. told.1 ++ flat_map (events_of_move told.0 true) moves) (enumerate_from 0 plain.events);
}

-- rail r was switched: its on bit is this and it told these, its supply's votes changed so, and all else is as before
pub record Switches (bits : ℕ) (more : List Event) (change : ℕ → ℕ) (r : ℕ) (before after : Hands) : Type 0 where
  pub board : after.board ≡ before.board
  pub rails : after.rails ≡ before.rails
  pub own : after.bits r EnableBit ≡ bits
  pub others : (i : ℕ) (part : Part) → (i ≡ r → part ≡ EnableBit → ⊥) → after.bits i part ≡ before.bits i part
  pub told : after.books r ≡ record (before.books r) { events = (before.books r).events ++ more }
  pub supply : (s : ℕ) → supply_at before.board.graph r ≡ Some s → after.books s ≡ record (before.books s) { votes = change (before.books s).votes }
  pub rest : (i : ℕ) → r ≢ i → supply_at before.board.graph r ≢ Some i → after.books i ≡ before.books i

-- rail r was switched on, and told so: its supply has a vote more
abbrev pub SwitchesOn : ℕ → Hands → Hands → Type 0
SwitchesOn r before after = Switches 1 (TellsEnable ∷ []) (λ votes. votes + 1) r before after

-- rail r was switched off, and told so: its supply has a vote less
abbrev pub SwitchesOff : ℕ → Hands → Hands → Type 0
SwitchesOff r before after = Switches 0 (TellsPreDisable ∷ TellsDisable ∷ []) (λ votes. votes - 1) r before after

-- rail r has this book, and all else is as before
pub record ChangesBook (r : ℕ) (book : Book) (before after : Hands) : Type 0 where
  pub board : after.board ≡ before.board
  pub rails : after.rails ≡ before.rails
  pub bits : (i : ℕ) (part : Part) → after.bits i part ≡ before.bits i part
  pub own : after.books r ≡ book
  pub others : (i : ℕ) → r ≢ i → after.books i ≡ before.books i

-- the on bit of rail r is this, and all else is as before
pub record PutsBit (bits : ℕ) (r : ℕ) (before after : Hands) : Type 0 where
  pub board : after.board ≡ before.board
  pub rails : after.rails ≡ before.rails
  pub own : after.bits r EnableBit ≡ bits
  pub others : (i : ℕ) (part : Part) → (i ≡ r → part ≡ EnableBit → ⊥) → after.bits i part ≡ before.bits i part
  pub books : (i : ℕ) → after.books i ≡ before.books i

-- the on bit of rail r is 1
abbrev pub RaisesBit : ℕ → Hands → Hands → Type 0
RaisesBit r before after = PutsBit 1 r before after

-- the votes of the supply, where there is one, changed so, and all else is as before
pub record ChangesVotes (change : ℕ → ℕ) (supply : Option RailId) (before after : Hands) : Type 0 where
  pub board : after.board ≡ before.board
  pub rails : after.rails ≡ before.rails
  pub bits : (i : ℕ) (part : Part) → after.bits i part ≡ before.bits i part
  pub own : (s : ℕ) → option_map (λ id. id.0) supply ≡ Some s → after.books s ≡ record (before.books s) { votes = change (before.books s).votes }
  pub others : (i : ℕ) → option_map (λ id. id.0) supply ≢ Some i → after.books i ≡ before.books i

-- the supply, where there is one, has a vote more
abbrev pub AddsVote : Option RailId → Hands → Hands → Type 0
AddsVote supply before after = ChangesVotes (λ votes. votes + 1) supply before after
