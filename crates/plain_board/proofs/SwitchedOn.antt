-- The rails of a chain that are off are switched on from above: each once its supply is on.
use Rattle.std.proofs.Common.{◌≡◌, ℕ, zero, suc, Bool, true, false, not, cond, List, [], ◌∷◌, ◌++◌, Option, Some, None, refl, sym, ap, ◌∙◌, subst, length, map, slice_get, reverse}
use Rattle.std.specs.Option.{option_map_or}
use Rattle.std.proofs.lemmas.Bool.{not-false}
use Rattle.std.proofs.lemmas.List.{map-append, reverse-append}
use Rattle.std.proofs.lemmas.List.Elements.{filter-append}
use Rattle.std.proofs.lemmas.Option.{same_Some, slice_get_within}
use Rattle.board_graph.specs.Graph.{supply_at}
use Rattle.board.specs.declared.board.Board.{Board}
use Rattle.board.specs.declared.rail.Rail.{Rail}
use Rattle.board.specs.Rail.{is_on}
use Rattle.board.specs.Valid.{IsSoundBoard}
use Rattle.rail_law.specs.Law.{Law}
use Rattle.rail_law.specs.Moves.{Move, after_moves}
use Rattle.plain_board.specs.Law.{Throughout}
use Rattle.plain_board.specs.Plan.{upward, chain, switch}
use Rattle.plain_board.specs.Switched.{is_off, off_rails}
use Rattle.plain_board.specs.Untied.{HoldFields}
use Rattle.plain_board.proofs.ChainEnds.{ends, chain_ends}
use Rattle.plain_board.proofs.Switches.{nothing_switched, IsSwitching, after_switch, is_on_now, switch_on}
use Rattle.plain_board.proofs.Throughout.{Throughout-after, Throughout-append, after_moves-append}

-- each rail that was on
abbrev pub WasOn : Board → List (List ℕ) → ℕ → Type 0
WasOn board first i = (a : Rail) → slice_get board.rails i ≡ Some a → is_on a first ≡ true

-- the registers while rails are switched on: each that was on still is
abbrev pub IsComingUp : Board → List (List ℕ) → List (List ℕ) → Type 0
IsComingUp board first regs = IsSwitching board first (WasOn board first) regs

-- the moves that switch on those of some rails that are off, given from below
abbrev pub on_moves : Board → List (List ℕ) → List ℕ → List Move
on_moves board first rails = map (switch 1) (off_rails board first (reverse rails))

-- the first of some rails is on
abbrev pub IsFirstOn : Board → Option ℕ → List (List ℕ) → Type 0
IsFirstOn board r regs = (k : ℕ) (rail : Rail) → r ≡ Some k → slice_get board.rails k ≡ Some rail → is_on rail regs ≡ true

-- after each of these moves the rails are coming up, and after all of them the first rail is on
pub record ComesUp (board : Board) (first : List (List ℕ)) (r : Option ℕ) (moves : List Move) : Type 0 where
  pub throughout : Throughout (IsComingUp board first) board first moves
  pub at_end : IsFirstOn board r (after_moves board first moves)

module _ (board : Board) (sound : IsSoundBoard board) (first : List (List ℕ)) (chips : length first ≡ board.chips) (hold : HoldFields board first) (law : Law board first) where
  before_all : IsComingUp board first first
  before_all = record { only = nothing_switched board sound first chips hold; supplies = law.supplies; needed = λ i rail at was. was rail at }

  -- the rails of a chain that are off: first those above, then the rail itself
  one_below : (r : ℕ) (above : List ℕ) → on_moves board first (r ∷ above) ≡ on_moves board first above ++ cond (is_off board first r) (switch 1 r ∷ []) []
  one_below r above =
      ap (λ rails. map (switch 1) (off_rails board first rails)) (reverse-append (r ∷ []) above)
      ∙ ap (map (switch 1)) (filter-append (is_off board first) (reverse above) (r ∷ []))
      ∙ map-append (switch 1) (off_rails board first (reverse above)) (cond (is_off board first r) (r ∷ []) [])
      ∙ ap (λ rest. on_moves board first above ++ rest) (by (is_off board first r))
    where
      by : (t : Bool) → map (switch 1) (cond t (r ∷ []) []) ≡ cond t (switch 1 r ∷ []) []
      by true = refl
      by false = refl

  was_on : (r : ℕ) (rail : Rail) → slice_get board.rails r ≡ Some rail → is_off board first r ≡ false → is_on rail first ≡ true
  was_on r rail at is = not-false _ (sym (ap (λ o. option_map_or (λ (a : Rail). not (is_on a first)) o false) at) ∙ is)

  module _ (r : ℕ) (moves : List Move) (above : ComesUp board first (supply_at board.graph r) moves) where
    abbrev regs : List (List ℕ)
    regs = after_moves board first moves

    state : IsComingUp board first regs
    state = Throughout-after (IsComingUp board first) board first moves above.throughout

    now_on : IsComingUp board first (after_switch board 1 r regs)
    now_on = switch_on board sound first chips hold (WasOn board first) r regs state (λ upper a supplies at. above.at_end upper a supplies at)

    joins : (t : Bool) → is_off board first r ≡ t → ComesUp board first (Some r) (moves ++ cond t (switch 1 r ∷ []) [])
    joins true is = record {
      throughout = Throughout-append (IsComingUp board first) board first moves (switch 1 r ∷ []) above.throughout (state, now_on);
      at_end = λ k rail same at.
          let there : slice_get board.rails r ≡ Some rail = ap (slice_get board.rails) (same_Some r k same) ∙ at in
          subst (λ new. is_on rail new ≡ true) (sym (after_moves-append board first moves (switch 1 r ∷ []))) (is_on_now board sound first chips hold (WasOn board first) r regs state rail there);
    }
    joins false is = record {
      throughout = Throughout-append (IsComingUp board first) board first moves [] above.throughout state;
      at_end = λ k rail same at.
          let there : slice_get board.rails r ≡ Some rail = ap (slice_get board.rails) (same_Some r k same) ∙ at in
          subst (λ new. is_on rail new ≡ true) (sym (after_moves-append board first moves []))
          (state.needed r rail there (λ a a_at. was_on r a a_at is));
    }

  comes_up : (n : ℕ) (r : Option ℕ) → ends board.graph n r ≡ true → ComesUp board first r (on_moves board first (upward board.graph n r))
  comes_up zero None is = record { throughout = before_all; at_end = λ k rail none. absurd (cc) }
  comes_up zero (Some r) is = absurd (cc)
  comes_up (suc n) None is = record { throughout = before_all; at_end = λ k rail none. absurd (cc) }
  comes_up (suc n) (Some r) is =
      subst (ComesUp board first (Some r)) (sym (one_below r (upward board.graph n (supply_at board.graph r))))
      (joins r (on_moves board first (upward board.graph n (supply_at board.graph r))) (comes_up n (supply_at board.graph r) is) (is_off board first r) refl)

  -- a rail's chain comes up, and then the rail is on
  pub chain_comes_up : (r : ℕ) (rail : Rail) → slice_get board.rails r ≡ Some rail → ComesUp board first (Some r) (on_moves board first (chain board r))
  chain_comes_up r rail at = comes_up (length board.rails) (Some r) (chain_ends board sound r (slice_get_within board.rails r rail at))
