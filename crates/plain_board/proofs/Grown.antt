-- What a plain board keeps when the first moves of a call are made: all but registers and events, and these grow.
use Rattle.std.proofs.Common.{◌≡◌, ℕ, zero, suc, ◌≤◌, ◌<◌, List, [], ◌∷◌, ◌++◌, refl, ap, ◌∙◌, arith, map, length, take, inl, inr, zero-add}
use Rattle.std.specs.Prelude.{slice_index_or}
use Rattle.std.specs.List.{enumerate_from}
use Rattle.std.proofs.lemmas.Bool.{cases_lt}
use Rattle.std.proofs.lemmas.List.{length-map, length-append, get_or-map, get_or_past}
use Rattle.std.proofs.lemmas.List.FromFn.{length-enumerate_from, get_or-enumerate_from}
use Rattle.board.specs.declared.board.Board.{Board}
use Rattle.board.specs.declared.event.Event.{Event}
use Rattle.rail_law.specs.Moves.{Move, after_moves}
use Rattle.plain_board.specs.declared.plain.Plain.{Plain}
use Rattle.plain_board.specs.Handles.{Entry}
use Rattle.plain_board.specs.Moved.{events_of, after_first}

-- a plain board with these registers and these handles, the holds of another, and its events or more
pub record HasGrown (plain now : Plain) (regs : List (List ℕ)) (handles : List Entry) : Type 0 where
  pub regs_are : now.regs ≡ regs
  pub handles_are : now.handles ≡ handles
  pub holds : now.holds ≡ plain.holds
  pub rails : length now.events ≡ length plain.events
  pub events : (i : ℕ) → length (slice_index_or plain.events i []) ≤ length (slice_index_or now.events i [])

module _ (f : ℕ × List Event → List Event) (events : List (List Event)) where
  told_rails : length (map f (enumerate_from 0 events)) ≡ length events
  told_rails = length-map (enumerate_from 0 events) f ∙ length-enumerate_from 0 events

  told_at : (i : ℕ) → i < length events → slice_index_or (map f (enumerate_from 0 events)) i [] ≡ f (i, slice_index_or events i [])
  told_at i within =
      get_or-map f (enumerate_from 0 events) i (i, []) [] (omega (arith, length-enumerate_from 0 events))
      ∙ ap f (get_or-enumerate_from 0 events i (i, []) within)
      ∙ ap (λ n. f (n, slice_index_or events i [])) (zero-add i)

more_told : (tells : ℕ → List Event) (events : List (List Event)) (i : ℕ)
    → length (slice_index_or events i []) ≤ length (slice_index_or (map (λ told. told.1 ++ tells told.0) (enumerate_from 0 events)) i [])
more_told tells events i = elim (cases_lt i (length events)) [
  | inl within ↦
      let now : slice_index_or (map (λ told. told.1 ++ tells told.0) (enumerate_from 0 events)) i [] ≡ slice_index_or events i [] ++ tells i = told_at (λ told. told.1 ++ tells told.0) events i within in
      omega (arith, ap length now, length-append (slice_index_or events i []) (tells i))
  | inr past ↦ omega (arith, ap length (get_or_past events i [] past))
]

-- the moves are made
pub after_first-grown : (board : Board) (plain : Plain) (made : ℕ) (moves : List Move) → HasGrown plain (after_first board plain made moves) (after_moves board plain.regs (take made moves)) plain.handles
after_first-grown board plain zero [] = record { regs_are = refl; handles_are = refl; holds = refl; rails = refl; events = λ i. omega arith }
after_first-grown board plain (suc made) [] = record { regs_are = refl; handles_are = refl; holds = refl; rails = refl; events = λ i. omega arith }
after_first-grown board plain made (move ∷ moves) = record {
  regs_are = refl;
  handles_are = refl;
  holds = refl;
  rails = told_rails (λ told. told.1 ++ events_of board plain.regs (move ∷ moves) made told.0) plain.events;
  events = more_told (events_of board plain.regs (move ∷ moves) made) plain.events;
}
