-- A rail that is to be on is on after loading, and so is the supply of one that is.
use Rattle.std.proofs.Common.{◌≡◌, ℕ, ◌<◌, Bool, true, ◌&&◌, ◌||◌, List, [], Some, inl, inr, refl, sym, ap, ◌∙◌, subst, arith, length, get_or, slice_get, zero-add, eq-eqb, eqb-true}
use Rattle.std.specs.Prelude.{◌==◌}
use Rattle.std.specs.List.{enumerate_from}
use Rattle.std.proofs.lemmas.Bool.{or_cases, or_left, or_right, and_parts, and_from}
use Rattle.std.proofs.lemmas.List.Folds.{list_any_at, Any-from_list_any, list_any-from_Any}
use Rattle.std.proofs.lemmas.List.FromFn.{length-enumerate_from, get_or-enumerate_from}
use Rattle.std.proofs.lemmas.Option.{slice_get_within, get_or_from_slice_get}
use Rattle.board_graph.specs.Graph.{IsGraph, Supplies}
use Rattle.board_graph.specs.Loops.{is_above}
use Rattle.board_graph.proofs.LoopLaws.{above_is_lem}
use Rattle.board_graph.proofs.Ways.{step_leads}
use Rattle.board.specs.declared.board.Board.{Board}
use Rattle.board.specs.declared.rail.Rail.{Rail}
use Rattle.board_load.specs.Start.{is_asked_on, starts_on}

module _ (board : Board) (regs : List (List ℕ)) where
  abbrev pub brings_on : ℕ → ℕ × Rail → Bool
  brings_on i rail = is_asked_on regs rail.1 && (rail.0 == i || is_above board.graph i rail.0)

  pub asked_starts : (r : ℕ) (rail : Rail) → slice_get board.rails r ≡ Some rail → is_asked_on regs rail ≡ true → starts_on board regs r ≡ true
  asked_starts r rail there asked =
      let below : r < length board.rails = slice_get_within board.rails r rail there in
      let count : length (enumerate_from 0 board.rails) ≡ length board.rails = length-enumerate_from 0 board.rails in
      let same : get_or (enumerate_from 0 board.rails) r (r, rail) ≡ (r, rail) =
      get_or-enumerate_from 0 board.rails r (r, rail) below
      ∙ ap (λ (n : ℕ). (n, get_or board.rails r rail)) (zero-add r)
      ∙ ap (λ (a : Rail). (r, a)) (get_or_from_slice_get board.rails r rail rail there) in
      let brings : brings_on r (r, rail) ≡ true = and_from _ _ asked (or_left _ _ (eq-eqb r r refl)) in
      list_any_at (brings_on r) (enumerate_from 0 board.rails) r (r, rail) (omega arith) (ap (brings_on r) same ∙ brings)

  pub supply_starts : (upper lower : ℕ) → IsGraph board.graph → Supplies board.graph upper lower → starts_on board regs lower ≡ true → starts_on board regs upper ≡ true
  supply_starts upper lower is supplies starts =
      let some = Any-from_list_any (brings_on lower) (enumerate_from 0 board.rails) starts in
      let parts = and_parts _ _ some.4 in
      let rail : ℕ = some.1.0 in
      let above : is_above board.graph upper rail ≡ true = elim (or_cases _ _ parts.1) [
        | inl same ↦ (above_is_lem board.graph upper rail is).0 (record { between = []; way = subst (Supplies board.graph upper) (sym (eqb-true rail lower same)) supplies })
        | inr leads ↦ (above_is_lem board.graph upper rail is).0 (step_leads upper lower rail supplies ((above_is_lem board.graph lower rail is).1 leads))
      ] in
      list_any-from_Any (brings_on upper) (enumerate_from 0 board.rails) (some.0, some.1, some.2, some.3, and_from _ _ parts.0 (or_right _ _ above))
