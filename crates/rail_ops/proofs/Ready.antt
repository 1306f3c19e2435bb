-- What a worker that is ready for a call may read.
use Rattle.std.proofs.Common.{◌≡◌, ℕ, zero, suc, ◌+◌, ◌<◌, List, [], Some, refl, sym, ap, subst, ◌∙◌, arith, length, slice_get}
use Rattle.std.specs.Prelude.{Contains}
use Rattle.std.specs.List.{range_with_len}
use Rattle.std.specs.Option.{option_map, option_map_or}
use Rattle.std.proofs.lemmas.Bool.{or_right}
use Rattle.std.proofs.lemmas.List.{length-map}
use Rattle.std.proofs.lemmas.Option.{slice_get-map}
use Rattle.board_graph.specs.Graph.{count_of}
use Rattle.board_graph.specs.Sets.{guard_of, is_guard_of, rails_of}
use Rattle.board_graph.proofs.SetLaws.{block_is}
use Rattle.board.specs.declared.board.Board.{Board}
use Rattle.board.specs.declared.rail.Rail.{Rail}
use Rattle.board.specs.Valid.{IsValid}
use Rattle.rail_state.specs.Sight.{IsGuarded}
use Rattle.rail_state.proofs.Members.{Contains-filter}
use Rattle.rows.specs.declared.call.Call.{Call}
use Rattle.use_counts.specs.Uses.{rail_named}
use Rattle.plain_board.specs.declared.plain.Plain.{Plain}
use Rattle.plain_board.specs.Handles.{own}
use Rattle.plain_board.specs.Seen.{needs, needs_of_open, alone}
use Rattle.rail_ops.specs.Sight.{Place, MayBe, IsReady}
use Rattle.rail_ops.proofs.Found.{found, element}

in_range : (from n k : ℕ) → k < n → Contains (range_with_len from n) (from + k)
in_range from zero k within = absurd (omega (arith, within))
in_range from (suc n) zero within = (0, omega arith, omega arith)
in_range from (suc n) (suc k) within =
    let rest : Contains (range_with_len (from + 1) n) (from + suc k) = subst (Contains (range_with_len (from + 1) n)) (omega arith) (in_range (from + 1) n k (omega (arith, within))) in
    (suc rest.0, omega (arith, rest.1), rest.2)

module _ (board : Board) (valid : IsValid board) where
  pub count_is : count_of board.graph ≡ length board.rails
  count_is = ap (λ (groups : List ℕ). length groups) valid.sound.graph.groups ∙ length-map board.rails (λ (rail : Rail). rail.group)

  -- each rail of the board is one of its graph
  pub of_graph : (r : ℕ) → r < length board.rails → Contains (rails_of board.graph) r
  of_graph r inside = subst (Contains (rails_of board.graph)) (omega arith) (in_range 0 (count_of board.graph) r (subst (λ n. r < n) (sym count_is) inside))

  -- a rail guards itself
  pub guards_itself : (r : ℕ) → r < length board.rails → Contains (guard_of board.graph r) r
  guards_itself r inside =
      let there = element board.rails r inside in
      let group : slice_get board.graph.group r ≡ Some there.0.group =
      ap (λ groups. slice_get groups r) valid.sound.graph.groups ∙ slice_get-map (λ (rail : Rail). rail.group) board.rails r ∙ ap (option_map (λ (rail : Rail). rail.group)) there.1 in
      Contains-filter (λ i. is_guard_of board.graph i r) (rails_of board.graph) r (of_graph r inside)
      (or_right _ _ (block_is board.graph r r (record { group = there.0.group; first = group; second = group })))

  -- so a rail that is held is guarded
  pub guarded : (rails : List ℕ) (r : ℕ) → r < length board.rails → Contains rails r → IsGuarded board rails r
  guarded rails r inside held = (r, held, guards_itself r inside)

module _ (place : Place) (plain : Plain) (may_be : MayBe place plain) (board : Board) (same : place.hands.board ≡ board) (name : List ℕ) (r : ℕ) (named : rail_named place.names name ≡ Some r) where
  -- the rail of an open name is one of the board
  pub named_inside : r < length board.rails
  named_inside = subst (λ (b : Board). r < length b.rails) same (found place plain may_be name r named).inside

  pub own_is : own plain place.worker name ≡ Some r
  own_is = sym (may_be.knows.rails name) ∙ named

  -- what a call on it needs is this rail, or what it rests on
  pub needs_are : (rails : ℕ → List ℕ) → needs_of_open rails plain place.worker name ≡ rails r
  needs_are rails = ap (λ o. option_map_or rails o []) own_is

-- a call that needs the one rail of an open name holds it
pub held_alone : (place : Place) (call : Call) (name : List ℕ) (ready : IsReady place call) → needs place.hands.board ready.plain place.worker call ≡ needs_of_open alone ready.plain place.worker name
    → (r : ℕ) → rail_named place.names name ≡ Some r → Contains place.hands.rails r
held_alone place call name ready needed r named =
    ready.held r (subst (λ rails. Contains rails r) (sym (needed ∙ needs_are place ready.plain ready.may_be place.hands.board refl name r named alone)) (0, omega arith, refl))

-- so it may read its fields
pub named_guarded : (place : Place) (call : Call) (name : List ℕ) (ready : IsReady place call) → needs place.hands.board ready.plain place.worker call ≡ needs_of_open alone ready.plain place.worker name
    → (board : Board) → place.hands.board ≡ board → IsValid board → (r : ℕ) → rail_named place.names name ≡ Some r → IsGuarded board place.hands.rails r
named_guarded place call name ready needed board same valid r named =
    guarded board valid place.hands.rails r (named_inside place ready.plain ready.may_be board same name r named) (held_alone place call name ready needed r named)
