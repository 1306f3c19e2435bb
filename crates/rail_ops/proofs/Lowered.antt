-- The plain board after the first so many moves that switch rails off, and after a refused one.
use Rattle.std.proofs.Common.{◌≡◌, ℕ, zero, suc, true, false, List, [], ◌∷◌, ◌++◌, Option, Some, None, refl, sym, ap, ◌∙◌, subst, arith, map, length, take, slice_get}
use Rattle.std.specs.Prelude.{flat_map, option_to_list}
use Rattle.std.specs.Option.{option_map_or}
use Rattle.std.proofs.lemmas.List.{append-nil}
use Rattle.board.specs.declared.board.Board.{Board}
use Rattle.board.specs.declared.rail.Rail.{Rail}
use Rattle.board.specs.Rail.{uv}
use Rattle.board.specs.Valid.{IsSoundBoard}
use Rattle.rail_law.specs.Moves.{Move, after_moves}
use Rattle.plain_board.specs.declared.plain.Plain.{Plain}
use Rattle.plain_board.specs.Events.{events_of_move}
use Rattle.plain_board.specs.Moved.{after_first, events_of, uv_at}
use Rattle.plain_board.specs.Plan.{switch}
use Rattle.plain_board.specs.Untied.{HoldFields}
use Rattle.plain_board.proofs.Switches.{AreSwitchedOnly, after_switch, nothing_switched, switched_at, uv_kept}
use Rattle.rail_ops.specs.Inside.Falling.{with_abort}
use Rattle.rail_ops.specs.Inside.Raised.{raised}
use Rattle.rail_ops.proofs.Raised.{raised_nil, same_more, still_tells_nothing, twice_more}

-- switches off change on bits alone
pub only_down : (board : Board) → IsSoundBoard board → (first : List (List ℕ)) → length first ≡ board.chips → HoldFields board first → (rails : List ℕ) (regs : List (List ℕ)) → AreSwitchedOnly board first regs
    → AreSwitchedOnly board first (after_moves board regs (map (switch 0) rails))
only_down board sound first chips hold [] regs only = only
only_down board sound first chips hold (r ∷ rest) regs only =
    only_down board sound first chips hold rest (after_switch board 0 r regs) (switched_at board sound first chips hold 0 (omega arith) r regs only).only

module _ (board : Board) (sound : IsSoundBoard board) (plain : Plain) (chips : length plain.regs ≡ board.chips) (hold : HoldFields board plain.regs) where
  -- so each rail stands where it stood
  pub stands_down : (moves : List Move) (rails : List ℕ) → moves ≡ map (switch 0) rails → (k : ℕ) (rail : Rail) → slice_get board.rails k ≡ Some rail → uv rail (after_moves board plain.regs moves) ≡ uv rail plain.regs
  stands_down moves rails are k rail at =
      uv_kept board plain.regs (after_moves board plain.regs moves)
      (subst (λ (ms : List Move). AreSwitchedOnly board plain.regs (after_moves board plain.regs ms)) (sym are)
      (only_down board sound plain.regs chips hold rails plain.regs (nothing_switched board sound plain.regs chips hold))) k rail at

  stays : (moves : List Move) (rails : List ℕ) → moves ≡ map (switch 0) rails → (i : ℕ) → uv_at board (after_moves board plain.regs moves) i ≡ uv_at board plain.regs i
  stays moves rails are i = by (slice_get board.rails i) refl where
    by : (o : Option Rail) → slice_get board.rails i ≡ o → option_map_or (λ (rail : Rail). uv rail (after_moves board plain.regs moves)) o 0 ≡ option_map_or (λ (rail : Rail). uv rail plain.regs) o 0
    by None none = refl
    by (Some rail) is = stands_down moves rails are i rail is

  module _ (made : ℕ) where
    tells : (moves : List Move) (rails : List ℕ) → moves ≡ map (switch 0) rails → (o : Option Move) → slice_get moves made ≡ o → (i : ℕ)
        → events_of board plain.regs moves made i ≡ flat_map (events_of_move i true) (take made moves) ++ flat_map (events_of_move i false) (option_to_list o)
    tells moves rails are o is i =
        ap (λ first. first ++ flat_map (events_of_move i true) (take made moves) ++ flat_map (events_of_move i false) (option_to_list (slice_get moves made)))
        (still_tells_nothing (uv_at board plain.regs i) (uv_at board (after_moves board plain.regs moves) i) (uv_at board (after_moves board plain.regs (take made moves)) i) (stays moves rails are i))
        ∙ ap (λ next. flat_map (events_of_move i true) (take made moves) ++ flat_map (events_of_move i false) (option_to_list next)) is

    -- no move was refused
    pub after_first-down : (moves : List Move) (rails : List ℕ) → moves ≡ map (switch 0) rails → slice_get moves made ≡ None → after_first board plain made moves ≡ raised board plain (take made moves)
    after_first-down [] rails are none = nothing made where
      nothing : (n : ℕ) → plain ≡ raised board plain (take n [])
      nothing zero = sym (raised_nil board plain)
      nothing (suc n) = sym (raised_nil board plain)
    after_first-down (move ∷ moves) rails are none =
        ap (λ events. record plain { regs = after_moves board plain.regs (take made (move ∷ moves)); events = events })
        (same_more (events_of board plain.regs (move ∷ moves) made) (λ i. flat_map (events_of_move i true) (take made (move ∷ moves)))
        (λ i. tells (move ∷ moves) rails are None none i ∙ append-nil (flat_map (events_of_move i true) (take made (move ∷ moves)))) 0 plain.events)

    -- the next was refused
    pub after_first-refused : (moves : List Move) (rails : List ℕ) → moves ≡ map (switch 0) rails → (r : ℕ) → slice_get moves made ≡ Some (switch 0 r)
        → after_first board plain made moves ≡ with_abort (raised board plain (take made moves)) (Some r)
    after_first-refused [] rails are r next = absurd (cc)
    after_first-refused (move ∷ moves) rails are r next =
        ap (λ events. record plain { regs = after_moves board plain.regs (take made (move ∷ moves)); events = events })
        (same_more (events_of board plain.regs (move ∷ moves) made)
        (λ i. flat_map (events_of_move i true) (take made (move ∷ moves)) ++ flat_map (events_of_move i false) (switch 0 r ∷ []))
        (tells (move ∷ moves) rails are (Some (switch 0 r)) next) 0 plain.events
        ∙ sym (twice_more (λ i. flat_map (events_of_move i true) (take made (move ∷ moves))) (λ i. flat_map (events_of_move i false) (switch 0 r ∷ [])) 0 plain.events))
