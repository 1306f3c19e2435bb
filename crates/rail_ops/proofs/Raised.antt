-- A plain board while rails are switched on, one after another.
use Rattle.std.proofs.Common.{◌≡◌, ℕ, zero, suc, ◌+◌, ◌<◌, ◌≤◌, Bool, true, false, cond, List, [], ◌∷◌, ◌++◌, refl, sym, ap, ◌∙◌, subst, arith, map, length, take, append_assoc, zero-add, eqb}
use Rattle.std.specs.Prelude.{slice_index_or, flat_map, option_to_list, slice_get}
use Rattle.std.specs.List.{enumerate_from}
use Rattle.std.proofs.lemmas.Bool.{eq-eqb}
use Rattle.std.proofs.lemmas.List.{length-map, get_or-map, get_or_past, append-nil}
use Rattle.std.proofs.lemmas.List.FromFn.{length-enumerate_from, get_or-enumerate_from}
use Rattle.std.proofs.lemmas.Grind.{flat_map-append}
use Rattle.board.specs.declared.board.Board.{Board}
use Rattle.board.specs.declared.event.Event.{Event}
use Rattle.rail_law.specs.Moves.{Move, after_moves}
use Rattle.plain_board.specs.declared.plain.Plain.{Plain}
use Rattle.plain_board.specs.Events.{voltage_events, events_of_move}
use Rattle.plain_board.specs.Moved.{uv_at, events_of, after_first}
use Rattle.plain_board.specs.Plan.{switch}
use Rattle.plain_board.proofs.Throughout.{after_moves-append}
use Rattle.rail_ops.specs.Inside.Raised.{raised}

-- what the rails told, each with more
module _ (more : ℕ → List Event) where
  abbrev pub with_more_told : ℕ → List (List Event) → List (List Event)
  with_more_told from events = map (λ told. told.1 ++ more told.0) (enumerate_from from events)

  pub more_told_at : (events : List (List Event)) (i : ℕ) → i < length events → slice_index_or (with_more_told 0 events) i [] ≡ slice_index_or events i [] ++ more i
  more_told_at events i within =
      get_or-map (λ (told : ℕ × List Event). told.1 ++ more told.0) (enumerate_from 0 events) i (i, []) [] (omega (arith, length-enumerate_from 0 events))
      ∙ ap (λ (told : ℕ × List Event). told.1 ++ more told.0) (get_or-enumerate_from 0 events i (i, []) within)
      ∙ ap (λ n. slice_index_or events i [] ++ more n) (zero-add i)

  pub more_told_rails : (events : List (List Event)) → length (with_more_told 0 events) ≡ length events
  more_told_rails events = length-map (enumerate_from 0 events) (λ (told : ℕ × List Event). told.1 ++ more told.0) ∙ length-enumerate_from 0 events

  pub more_told_past : (events : List (List Event)) (i : ℕ) → length events ≤ i → slice_index_or (with_more_told 0 events) i [] ≡ []
  more_told_past events i past = get_or_past (with_more_told 0 events) i [] (omega (arith, past, more_told_rails events))

-- nothing more
pub none_more : (from : ℕ) (events : List (List Event)) → with_more_told (λ i. []) from events ≡ events
none_more from [] = refl
none_more from (told ∷ rest) = ap (λ first. first ∷ with_more_told (λ i. []) (from + 1) rest) (append-nil told) ∙ ap (λ further. told ∷ further) (none_more (from + 1) rest)

-- the same more
pub same_more : (f g : ℕ → List Event) → ((i : ℕ) → f i ≡ g i) → (from : ℕ) (events : List (List Event)) → with_more_told f from events ≡ with_more_told g from events
same_more f g same from [] = refl
same_more f g same from (told ∷ rest) =
    ap (λ more. (told ++ more) ∷ with_more_told f (from + 1) rest) (same from) ∙ ap (λ further. (told ++ g from) ∷ further) (same_more f g same (from + 1) rest)

-- more, and more again
pub twice_more : (f g : ℕ → List Event) (from : ℕ) (events : List (List Event)) → with_more_told g from (with_more_told f from events) ≡ with_more_told (λ i. f i ++ g i) from events
twice_more f g from [] = refl
twice_more f g from (told ∷ rest) =
    ap (λ first. first ∷ with_more_told g (from + 1) (with_more_told f (from + 1) rest)) (append_assoc told (f from) (g from))
    ∙ ap (λ further. (told ++ (f from ++ g from)) ∷ further) (twice_more f g (from + 1) rest)

module _ (board : Board) (plain : Plain) where
  -- no moves leave the plain board as it is
  pub raised_nil : raised board plain [] ≡ plain
  raised_nil = ap (λ events. record plain { events = events }) (none_more 0 plain.events)

  -- moves after moves
  pub raised_append : (first second : List Move) → raised board (raised board plain first) second ≡ raised board plain (first ++ second)
  raised_append first second =
      ap (λ regs. record plain { regs = regs; events = (raised board (raised board plain first) second).events }) (sym (after_moves-append board plain.regs first second))
      ∙ ap (λ events. record plain { regs = after_moves board plain.regs (first ++ second); events = events })
      (twice_more (λ i. flat_map (events_of_move i true) first) (λ i. flat_map (events_of_move i true) second) 0 plain.events
      ∙ same_more (λ i. flat_map (events_of_move i true) first ++ flat_map (events_of_move i true) second) (λ i. flat_map (events_of_move i true) (first ++ second))
      (λ i. sym (flat_map-append (events_of_move i true) first second)) 0 plain.events)

-- a rail that stays where it is tells nothing of its voltage
pub still_tells_nothing : (before goal now : ℕ) → goal ≡ before → voltage_events before goal now ≡ []
still_tells_nothing before goal now same = rw (eq-eqb before goal (sym same)) refl

-- a refused on write tells nothing
refused_on : (i : ℕ) (rails : List ℕ) (made : ℕ) → flat_map (events_of_move i false) (option_to_list (slice_get (map (switch 1) rails) made)) ≡ []
refused_on i [] made = refl
refused_on i (r ∷ rest) zero = by (eqb r i) where
  by : (t : Bool) → flat_map (λ (x : ℕ). cond {A = List Event} t [] []) (r ∷ []) ≡ []
  by true = refl
  by false = refl
refused_on i (r ∷ rest) (suc made) = refused_on i rest made

module _ (board : Board) (plain : Plain) (rails : List ℕ) (made : ℕ) (stays : (i : ℕ) → uv_at board (after_moves board plain.regs (map (switch 1) rails)) i ≡ uv_at board plain.regs i) where
  tells : (i : ℕ) → events_of board plain.regs (map (switch 1) rails) made i ≡ flat_map (events_of_move i true) (take made (map (switch 1) rails))
  tells i =
      ap (λ first. first ++ flat_map (events_of_move i true) (take made (map (switch 1) rails)) ++ flat_map (events_of_move i false) (option_to_list (slice_get (map (switch 1) rails) made)))
      (still_tells_nothing (uv_at board plain.regs i) (uv_at board (after_moves board plain.regs (map (switch 1) rails)) i) (uv_at board (after_moves board plain.regs (take made (map (switch 1) rails))) i) (stays i))
      ∙ ap (λ last. flat_map (events_of_move i true) (take made (map (switch 1) rails)) ++ last) (refused_on i rails made)
      ∙ append-nil (flat_map (events_of_move i true) (take made (map (switch 1) rails)))

  first_by : (moves : List Move) → moves ≡ map (switch 1) rails → after_first board plain made moves ≡ raised board plain (take made moves)
  first_by [] are = nothing made where
    nothing : (n : ℕ) → plain ≡ raised board plain (take n [])
    nothing zero = sym (raised_nil board plain)
    nothing (suc n) = sym (raised_nil board plain)
  first_by (move ∷ moves) are =
      ap (λ events. record plain { regs = after_moves board plain.regs (take made (move ∷ moves)); events = events })
      (same_more (events_of board plain.regs (move ∷ moves) made) (λ i. flat_map (events_of_move i true) (take made (move ∷ moves)))
      (λ i. subst (λ ms. events_of board plain.regs ms made i ≡ flat_map (events_of_move i true) (take made ms)) (sym are) (tells i)) 0 plain.events)

  -- the first so many of some moves that switch rails on, where no rail's value changes
  pub after_first-raised : after_first board plain made (map (switch 1) rails) ≡ raised board plain (take made (map (switch 1) rails))
  after_first-raised = first_by (map (switch 1) rails) refl
