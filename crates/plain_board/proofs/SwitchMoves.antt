-- Which rails are on after some moves that switch rails: those of the moves are switched, the others are as before.
use Rattle.std.proofs.Common.{◌≡◌, ℕ, ◌≤◌, Bool, true, false, cond, ◌||◌, List, [], ◌∷◌, refl, sym, ap, ◌∙◌, subst, length, map, take, slice_get}
use Rattle.std.specs.Prelude.{◌==◌}
use Rattle.std.proofs.lemmas.Bool.{eq-eqb, eqb-true}
use Rattle.std.proofs.lemmas.List.{take-map}
use Rattle.board.specs.declared.board.Board.{Board}
use Rattle.board.specs.Rail.{is_on}
use Rattle.board.specs.Valid.{IsSoundBoard}
use Rattle.rail_law.specs.Moves.{Move}
use Rattle.plain_board.specs.declared.plain.Plain.{Plain}
use Rattle.plain_board.specs.Plan.{switch, is_idle, with_off, chain_off, sweep_off}
use Rattle.plain_board.specs.Switched.{is_moved, AreSwitched}
use Rattle.plain_board.specs.Untied.{HoldFields}
use Rattle.plain_board.proofs.Switches.{AreSwitchedOnly, IsSwitchedAt, nothing_switched, after_switch, switched_at}

module _ (board : Board) (sound : IsSoundBoard board) (first : List (List ℕ)) (chips : length first ≡ board.chips) (hold : HoldFields board first) (bits : ℕ) (one_bit : bits ≤ 1) where
  one_more_by : (s t : Bool) (others own : Bool) (now : Bool) → (s ≡ true → own ≡ (bits == 1)) → (s ≡ false → own ≡ others) → now ≡ cond t (bits == 1) own → now ≡ cond (s || t) (bits == 1) others
  one_more_by true true others own now here there is = is
  one_more_by true false others own now here there is = is ∙ here refl
  one_more_by false true others own now here there is = is
  one_more_by false false others own now here there is = is ∙ there refl

  pub switched_by_moves : (rails : List ℕ) (regs : List (List ℕ)) → AreSwitchedOnly board first regs → AreSwitched board bits regs (map (switch bits) rails)
  switched_by_moves [] regs only i rail at = refl
  switched_by_moves (r ∷ rest) regs only i rail at =
      let step : IsSwitchedAt board r bits first regs (after_switch board bits r regs) = switched_at board sound first chips hold bits one_bit r regs only in
      one_more_by (r == i) (is_moved (map (switch bits) rest) i) (is_on rail regs) (is_on rail (after_switch board bits r regs)) _
      (λ here. step.own rail (ap (slice_get board.rails) (eqb-true r i here) ∙ at))
      (λ apart. step.others i rail at (λ same. absurd (cc (apart, eq-eqb r i same))))
      (switched_by_moves rest (after_switch board bits r regs) step.only i rail at)

  -- after the first so many moves of a plan that switches rails
  pub switched_after : (moves : List Move) (rails : List ℕ) → moves ≡ map (switch bits) rails → (made : ℕ) → AreSwitched board bits first (take made moves)
  switched_after moves rails are made =
      subst (AreSwitched board bits first) (sym (ap (take made) are ∙ take-map (switch bits) made rails))
      (switched_by_moves (take made rails) first (nothing_switched board sound first chips hold))

-- the rails of some moves, one after another
abbrev pub rails_of_moves : List Move → List ℕ
rails_of_moves moves = map (λ (move : Move). move.rail.0) moves

-- the moves of a chain that goes off switch rails off
pub chain_switches : (board : Board) (plain : Plain) (rails : List ℕ) → chain_off board plain rails ≡ map (switch 0) (rails_of_moves (chain_off board plain rails))
chain_switches board plain [] = refl
chain_switches board plain (r ∷ above) = by (is_idle board plain r) (chain_switches board (with_off board plain r) above) where
  by : (t : Bool) → chain_off board (with_off board plain r) above ≡ map (switch 0) (rails_of_moves (chain_off board (with_off board plain r) above))
      → cond t (switch 0 r ∷ chain_off board (with_off board plain r) above) [] ≡ map (switch 0) (rails_of_moves (cond t (switch 0 r ∷ chain_off board (with_off board plain r) above) []))
  by true rest = ap (λ moves. switch 0 r ∷ moves) rest
  by false rest = refl

-- and so do those of a sweep
pub sweep_switches : (board : Board) (plain : Plain) (rails : List ℕ) → sweep_off board plain rails ≡ map (switch 0) (rails_of_moves (sweep_off board plain rails))
sweep_switches board plain [] = refl
sweep_switches board plain (r ∷ rest) = by (is_idle board plain r) (sweep_switches board (with_off board plain r) rest) (sweep_switches board plain rest) where
  by : (t : Bool) → sweep_off board (with_off board plain r) rest ≡ map (switch 0) (rails_of_moves (sweep_off board (with_off board plain r) rest))
      → sweep_off board plain rest ≡ map (switch 0) (rails_of_moves (sweep_off board plain rest))
      → cond t (switch 0 r ∷ sweep_off board (with_off board plain r) rest) (sweep_off board plain rest)
      ≡ map (switch 0) (rails_of_moves (cond t (switch 0 r ∷ sweep_off board (with_off board plain r) rest) (sweep_off board plain rest)))
  by true off on = ap (λ moves. switch 0 r ∷ moves) off
  by false off on = on
