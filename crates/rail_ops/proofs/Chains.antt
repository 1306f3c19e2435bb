-- What a worker that is ready for a call on a rail's chain holds: the chain, and all that guards it.
use Rattle.std.proofs.Common.{◌≡◌, ℕ, zero, suc, ◌<◌, List, Option, Some, None, inl, inr, refl, sym, ◌∙◌, subst, get_or, length, All}
use Rattle.std.specs.Prelude.{Contains}
use Rattle.std.proofs.lemmas.Option.{same_Some}
use Rattle.std.proofs.lemmas.List.Elements.{All-cons, All-nil}
use Rattle.board_graph.specs.declared.graph.Graph.{Graph}
use Rattle.board_graph.specs.Graph.{supply_at}
use Rattle.board_graph.specs.Sets.{HoldsGuards, IsLeastWith, closure, is_guard_of, rails_of}
use Rattle.board_graph.proofs.SetLaws.{closure_is_least_lem, guard_cases}
use Rattle.board.proofs.BoardGraph.{sound_graph}
use Rattle.board.specs.declared.board.Board.{Board}
use Rattle.board.specs.Valid.{IsValid}
use Rattle.rail_state.specs.Sight.{IsOwned}
use Rattle.rail_state.proofs.Members.{Contains-from_filter}
use Rattle.plain_board.specs.Plan.{chain, upward}
use Rattle.plain_board.proofs.ChainEnds.{chain_ends, ends}
use Rattle.plain_board.proofs.HandleMoves.{chain_once}
use Rattle.rail_ops.specs.Inside.Rising.{LeadsUp, reaches_top}
use Rattle.rail_ops.proofs.Ready.{count_is}

ends_is : (graph : Graph) (n : ℕ) (r : Option ℕ) → reaches_top graph n r ≡ ends graph n r
ends_is graph zero r = refl
ends_is graph (suc n) None = refl
ends_is graph (suc n) (Some r) = ends_is graph n (supply_at graph r)

module _ (board : Board) (valid : IsValid board) (r : ℕ) (inside : r < length board.rails) where
  -- the chain of a rail reaches the top
  pub leads_up : LeadsUp board (length board.rails) (Some r)
  leads_up = record {
    ends = ends_is board.graph (length board.rails) (Some r) ∙ chain_ends board valid.sound r inside;
    apart = chain_once board r valid inside;
  }

  least : IsLeastWith (HoldsGuards board.graph) r (closure board.graph r)
  least = closure_is_least_lem board.graph r (sound_graph board valid.sound) (subst (λ n. r < n) (sym (count_is board valid)) inside)

  -- each rail of a way up from a rail of a set that holds what guards its rails is in it
  all_up : (set : List ℕ) → HoldsGuards board.graph set → (n : ℕ) (i : Option ℕ) → ((k : ℕ) → i ≡ Some k → Contains set k) → All (λ k. Contains set k) (upward board.graph n i)
  all_up set holds zero i has = All-nil (λ k. Contains set k)
  all_up set holds (suc n) None has = All-nil (λ k. Contains set k)
  all_up set holds (suc n) (Some k) has =
      All-cons (λ j. Contains set j) k (upward board.graph n (supply_at board.graph k)) (has k refl)
      (all_up set holds n (supply_at board.graph k) (λ upper is. holds.supplies upper k is (has k refl)))

  module _ (rails : List ℕ) (held : (i : ℕ) → Contains (closure board.graph r) i → Contains rails i) where
    within : All (λ k. Contains (closure board.graph r) k) (chain board r)
    within = all_up (closure board.graph r) least.such (length board.rails) (Some r) (λ k is. subst (λ j. Contains (closure board.graph r) j) (same_Some r k is) least.has)

    -- so a worker that holds what the rail rests on holds its chain
    pub chain_held : All (λ k. Contains rails k) (chain board r)
    chain_held k d inside_chain = held (get_or (chain board r) k d) (within k d inside_chain)

    -- and all that guards it
    pub chain_owned : All (IsOwned board rails) (chain board r)
    chain_owned k d inside_chain i guards =
        let j : ℕ = get_or (chain board r) k d in
        held i (elim (guard_cases board.graph i j (Contains-from_filter (λ x. is_guard_of board.graph x j) (rails_of board.graph) i guards).1) [
          | inl supplies ↦ least.such.supplies i j supplies (within k d inside_chain)
          | inr block ↦ least.such.blocks i j block (within k d inside_chain)
        ])

    pub rail_held : Contains rails r
    rail_held = held r least.has
