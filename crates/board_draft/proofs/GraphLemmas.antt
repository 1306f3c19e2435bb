-- The graph of the rails, list by list.
use Rattle.std.proofs.Common.{◌≡◌, ℕ, zero, suc, ◌+◌, Bool, false, not, ◌==◌, ◌&&◌, List, [], ◌∷◌, map, Option, Some, None, refl, sym, ap, ◌∙◌, subst, arith}
use Rattle.std.specs.Prelude.{slice_get, fold, min}
use Rattle.std.specs.List.{enumerate_from}
use Rattle.std.specs.Option.{option_map, option_map_or}
use Rattle.board.specs.declared.constraints.Constraints.{Constraints}
use Rattle.board_nodes.specs.declared.rail_node.RailNode.{RailNode}
use Rattle.board_nodes.specs.Rails.{Found, seen}
use Rattle.constraints.specs.Node.{constraints_at}
use Rattle.board.specs.Valid.{is_span}
use Rattle.dts_tree.specs.Tree.{Node}
use Rattle.board_draft.specs.Links.{named_by, supply_of, is_linked, is_changeable, graph_of}
use Rattle.board_draft.specs.Inside.Graph.{room_at, is_held_by}
use Rattle.board_draft.proofs.Walks.{map_map, enumerate-map}

slice_get-mapped : {X Y : Type 0} (f : X → Y) (xs : List X) (k : ℕ) → slice_get (map f xs) k ≡ option_map f (slice_get xs k)
slice_get-mapped f [] k = refl
slice_get-mapped f (x ∷ xs) zero = refl
slice_get-mapped f (x ∷ xs) (suc k) = slice_get-mapped f xs k

-- a list by its places reads another list by them
numbered_get : {X Y Z : Type 0} (g : Option Y → X → Z) (h : X → Y) (ys : List Y) (n : ℕ) (xs : List X) → ((k : ℕ) → slice_get ys (n + k) ≡ slice_get (map h xs) k)
    → map (λ (p : ℕ × X). g (slice_get ys p.0) p.1) (enumerate_from n xs) ≡ map (λ x. g (Some (h x)) x) xs
numbered_get g h ys n [] reads = refl
numbered_get {X} g h ys n (x ∷ xs) reads =
    let zero_on : n + 0 ≡ n = omega arith in
    let here : slice_get ys n ≡ Some (h x) = subst (λ m. slice_get ys m ≡ Some (h x)) zero_on (reads 0) in
    let next : (k : ℕ) → slice_get ys (n + 1 + k) ≡ slice_get (map h xs) k = λ k.
    let at : n + suc k ≡ n + 1 + k = omega arith in subst (λ m. slice_get ys m ≡ slice_get (map h xs) k) at (reads (suc k)) in
    ap (λ o. g o x ∷ map (λ (p : ℕ × X). g (slice_get ys p.0) p.1) (enumerate_from (n + 1) xs)) here ∙ ap (λ rest. g (Some (h x)) x ∷ rest) (numbered_get g h ys (n + 1) xs next)

module _ (nodes : List Node) (rails : List Found) where
  abbrev limits_are : List Constraints
  limits_are = map (λ rail. constraints_at nodes rail.node rail.desc) rails

  room_is : (s : ℕ) → room_at limits_are s ≡ option_map_or (is_changeable nodes) (slice_get rails s) false
  room_is s =
      ap (λ o. option_map_or (λ (c : Constraints). is_span c.bounds) o false) (slice_get-mapped (λ (rail : Found). constraints_at nodes rail.node rail.desc) rails s)
      ∙ (elim (slice_get rails s) as (λ o. option_map_or (λ (c : Constraints). is_span c.bounds) (option_map (λ (rail : Found). constraints_at nodes rail.node rail.desc) o) false
      ≡ option_map_or (is_changeable nodes) o false) [ None ↦ refl | Some rail ↦ refl ])

  link_is : (rail : Found) (supply : Option ℕ) → supply ≡ supply_of nodes rails rail → is_held_by limits_are (Some supply) rail.desc.dropout ≡ is_linked nodes rails rail
  link_is rail None is = rw (sym is) refl
  link_is rail (Some s) is = rw (sym is) (ap (λ b. not (rail.desc.dropout == 0) && b) (room_is s))

module _ (nodes : List Node) (rails : List RailNode) where
  each_link : (some : List RailNode) → map (λ (rail : RailNode). is_held_by (limits_are nodes (map seen rails)) (Some (supply_of nodes (map seen rails) (seen rail))) rail.desc.dropout) some
      ≡ map (λ rail. is_linked nodes (map seen rails) (seen rail)) some
  each_link [] = refl
  each_link (rail ∷ some) =
      ap (λ b. b ∷ map (λ (rail : RailNode). is_held_by (limits_are nodes (map seen rails)) (Some (supply_of nodes (map seen rails) (seen rail))) rail.desc.dropout) some)
      (link_is nodes (map seen rails) (seen rail) (supply_of nodes (map seen rails) (seen rail)) refl)
      ∙ ap (λ rest. is_linked nodes (map seen rails) (seen rail) ∷ rest) (each_link some)

  pub all_links : map (λ (rail : ℕ × RailNode). is_held_by (map (λ (f : Found). constraints_at nodes f.node f.desc) (map seen rails)) (slice_get (map (supply_of nodes (map seen rails)) (map seen rails)) rail.0) rail.1.desc.dropout) (enumerate_from 0 rails)
      ≡ map (is_linked nodes (map seen rails)) (map seen rails)
  all_links =
      let h : RailNode → Option ℕ = λ rail. supply_of nodes (map seen rails) (seen rail) in
      let supplies : map (supply_of nodes (map seen rails)) (map seen rails) ≡ map h rails = map_map (supply_of nodes (map seen rails)) seen rails in
      let limits = map (λ (f : Found). constraints_at nodes f.node f.desc) (map seen rails) in
      ap (λ ys. map (λ (rail : ℕ × RailNode). is_held_by limits (slice_get ys rail.0) rail.1.desc.dropout) (enumerate_from 0 rails)) supplies
      ∙ numbered_get (λ o (rail : RailNode). is_held_by limits o rail.desc.dropout) h (map h rails) 0 rails (λ k. let same : 0 + k ≡ k = omega arith in ap (slice_get (map h rails)) same)
      ∙ each_link rails
      ∙ sym (map_map (is_linked nodes (map seen rails)) seen rails)

  pub groups_are : map (λ (named : ℕ × List ℕ). fold min named.0 named.1) (enumerate_from 0 (map (named_by nodes (map seen rails)) (map seen rails)))
      ≡ map (λ rail. fold min rail.0 (named_by nodes (map seen rails) rail.1)) (enumerate_from 0 (map seen rails))
  groups_are = ap (map (λ (named : ℕ × List ℕ). fold min named.0 named.1)) (enumerate-map (named_by nodes (map seen rails)) 0 (map seen rails)) ∙ map_map _ _ (enumerate_from 0 (map seen rails))

  -- the lists of the graph, from those that the rails give
  pub graph_by : (limits : List Constraints) (supplies : List (Option ℕ)) (named : List (List ℕ)) (supply : List (Option ℕ)) (group : List ℕ) (link : List Bool)
      → limits ≡ map (λ (f : Found). constraints_at nodes f.node f.desc) (map seen rails) → supplies ≡ map (supply_of nodes (map seen rails)) (map seen rails) → named ≡ map (named_by nodes (map seen rails)) (map seen rails)
      → supply ≡ supplies → group ≡ map (λ (n : ℕ × List ℕ). fold min n.0 n.1) (enumerate_from 0 named)
      → link ≡ map (λ (rail : ℕ × RailNode). is_held_by limits (slice_get supplies rail.0) rail.1.desc.dropout) (enumerate_from 0 rails)
      → record { supply = supply; group = group; link = link } ≡ graph_of nodes (map seen rails)
  graph_by limits supplies named supply group link asked feeds names first second third =
      let groups : group ≡ map (λ rail. fold min rail.0 (named_by nodes (map seen rails) rail.1)) (enumerate_from 0 (map seen rails)) = second ∙ ap (λ n. map (λ (n : ℕ × List ℕ). fold min n.0 n.1) (enumerate_from 0 n)) names ∙ groups_are in
      let links : link ≡ map (is_linked nodes (map seen rails)) (map seen rails) =
      third ∙ ap (λ l. map (λ (rail : ℕ × RailNode). is_held_by l (slice_get supplies rail.0) rail.1.desc.dropout) (enumerate_from 0 rails)) asked
      ∙ ap (λ s. map (λ (rail : ℕ × RailNode). is_held_by (map (λ (f : Found). constraints_at nodes f.node f.desc) (map seen rails)) (slice_get s rail.0) rail.1.desc.dropout) (enumerate_from 0 rails)) feeds
      ∙ all_links in
      rw (first ∙ feeds, groups, links) refl
