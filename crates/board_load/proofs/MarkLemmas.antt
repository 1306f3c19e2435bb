-- Marks of rails: those that are set, and those that start on.
use Rattle.std.proofs.Common.{◌≡◌, ℕ, ◌+◌, ◌<◌, Bool, true, false, ◌||◌, ◌&&◌, List, refl, sym, ap, ◌∙◌, arith, length, get_or, take}
use Rattle.std.specs.Prelude.{◌==◌}
use Rattle.std.specs.List.{list_any, enumerate_from}
use Rattle.std.proofs.lemmas.List.Folds.{list_any_more}
use Rattle.std.proofs.lemmas.List.FromFn.{length-enumerate_from, get_or-enumerate_from}
use Rattle.std.proofs.lemmas.List.Elements.{Contains-get_or}
use Rattle.board_graph.specs.declared.graph.Graph.{Graph}
use Rattle.board_graph.specs.Graph.{count_of, IsGraph}
use Rattle.board_graph.specs.Loops.{above, is_above}
use Rattle.board_graph.proofs.AboveLemmas.{above_rail}
use Rattle.board_graph.proofs.Growth.{taken_from}
use Rattle.board_graph.proofs.LoopLaws.{above_is_lem}
use Rattle.board.specs.declared.board.Board.{Board}
use Rattle.board.specs.declared.rail.Rail.{Rail}
use Rattle.board_load.specs.Start.{is_asked_on}
use Rattle.board_load.proofs.StartsOn.{brings_on}

or_false : (t : Bool) → (t || false) ≡ t
or_false true = refl
or_false false = refl

-- what is above a rail are rails
pub above_within : (graph : Graph) (r i : ℕ) → IsGraph graph → i < length (above graph r) → get_or (above graph r) i 0 < count_of graph
above_within graph r i is within =
    above_rail graph (get_or (above graph r) i 0) r is
    ((above_is_lem graph (get_or (above graph r) i 0) r is).1 (taken_from (above graph r) (get_or (above graph r) i 0) (Contains-get_or (above graph r) i 0 within)))

module _ (board : Board) (regs : List (List ℕ)) where
  -- it is marked where one of the first so many rails brings it on
  abbrev pub IsOnBy : ℕ → List Bool → Type 0
  IsOnBy k on = (r : ℕ) → get_or on r false ≡ list_any (brings_on board regs r) (take k (enumerate_from 0 board.rails))

  on_by : (k : ℕ) (rail : Rail) (r : ℕ) → k < length board.rails → rail ≡ get_or board.rails k rail
      → list_any (brings_on board regs r) (take (k + 1) (enumerate_from 0 board.rails))
      ≡ (list_any (brings_on board regs r) (take k (enumerate_from 0 board.rails)) || is_asked_on regs rail && (k == r || is_above board.graph r k))
  on_by k rail r within is =
      let count = length-enumerate_from 0 board.rails in
      let number : 0 + k ≡ k = omega arith in
      let there : get_or (enumerate_from 0 board.rails) k (k, rail) ≡ (k, rail) =
      get_or-enumerate_from 0 board.rails k (k, rail) within ∙ ap (λ (n : ℕ). (n, get_or board.rails k rail)) number ∙ ap (λ (a : Rail). (k, a)) (sym is) in
      list_any_more (brings_on board regs r) (enumerate_from 0 board.rails) k (k, rail) (omega arith)
      ∙ ap (λ p. list_any (brings_on board regs r) (take k (enumerate_from 0 board.rails)) || brings_on board regs r p) there

  pub on_more : (k : ℕ) (rail : Rail) (on new : List Bool) → k < length board.rails → rail ≡ get_or board.rails k rail → is_asked_on regs rail ≡ true → IsOnBy k on
      → ((i : ℕ) → get_or new i false ≡ (get_or on i false || (k == i || is_above board.graph i k))) → IsOnBy (k + 1) new
  on_more k rail on new within is asked before marks r =
      marks r ∙ ap (λ t. t || (k == r || is_above board.graph r k)) (before r)
      ∙ ap (λ t. list_any (brings_on board regs r) (take k (enumerate_from 0 board.rails)) || t && (k == r || is_above board.graph r k)) (sym asked)
      ∙ sym (on_by k rail r within is)

  pub on_same : (k : ℕ) (rail : Rail) (on : List Bool) → k < length board.rails → rail ≡ get_or board.rails k rail → is_asked_on regs rail ≡ false → IsOnBy k on → IsOnBy (k + 1) on
  on_same k rail on within is asked before r =
      before r ∙ sym (or_false (list_any (brings_on board regs r) (take k (enumerate_from 0 board.rails))))
      ∙ ap (λ t. list_any (brings_on board regs r) (take k (enumerate_from 0 board.rails)) || t && (k == r || is_above board.graph r k)) (sym asked)
      ∙ sym (on_by k rail r within is)
