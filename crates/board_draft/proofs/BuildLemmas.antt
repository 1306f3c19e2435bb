-- The rails of a board, from the last to the first.
use Rattle.std.proofs.Common.{◌≡◌, ℕ, zero, suc, ◌+◌, ◌<◌, ◌≤◌, true, false, ◌&&◌, ◌==◌, List, [], ◌∷◌, ◌++◌, length, map, take, drop, get_or, slice_index_or, Option, Some, None, refl, sym, ap, ◌∙◌, subst, arith}
use Rattle.std.specs.Prelude.{reverse, if◌then◌else◌}
use Rattle.std.specs.List.{enumerate_from}
use Rattle.std.specs.Option.{option_map_or}
use Rattle.std.proofs.lemmas.Bool.{and_parts, eqb-true}
use Rattle.std.proofs.lemmas.List.{length-map, reverse-append}
use Rattle.std.proofs.lemmas.List.FromFn.{length-enumerate_from}
use Rattle.board.specs.declared.constraints.Constraints.{Constraints}
use Rattle.board.specs.declared.rail.Rail.{Rail}
use Rattle.constraints.specs.Bounds.{least_bound, greatest_bound, given_bounds}
use Rattle.constraints.specs.Node.{constraints_at}
use Rattle.dts_tree.specs.Tree.{Node}
use Rattle.board_nodes.specs.declared.rail_node.RailNode.{RailNode}
use Rattle.board_nodes.specs.Rails.{Found, seen}
use Rattle.board_draft.specs.Links.{supply_of, group_of, graph_of}
use Rattle.board_draft.specs.Sketch.{rail_at, trimmed}
use Rattle.board_draft.specs.Inside.Build.{rail_from}
use Rattle.board_draft.proofs.Walks.{get_or-map, there_at, place_at, places_end, none_left}

-- what is popped from the first so many of a list is the last of them
pub record Popped {X : Type 0} (all rest : List X) (x : X) : Type 0 where
  pub inside : length rest < length all
  pub item : x ≡ slice_index_or all (length rest) x
  pub rest_is : rest ≡ take (length rest) all

pub popped : {X : Type 0} (all rest : List X) (x : X) → rest ++ x ∷ [] ≡ take (length (rest ++ x ∷ [])) all → Popped all rest x
popped [] [] x is = absurd (cc)
popped [] (y ∷ rest) x is = absurd (cc)
popped (a ∷ all) [] x is = record { inside = omega arith; item = cc; rest_is = refl }
popped (a ∷ all) (y ∷ rest) x is =
    let head : y ≡ a = cc in
    let tail : rest ++ x ∷ [] ≡ take (length (rest ++ x ∷ [])) all = cc in
    let later = popped all rest x tail in
    let inner = later.inside in
    record { inside = omega (arith, inner); item = later.item; rest_is = ap (λ b. b ∷ rest) head ∙ ap (λ r. a ∷ r) later.rest_is }

pub last_of : {X : Type 0} (all items rest : List X) (x : X) → items ≡ rest ++ x ∷ [] → items ≡ take (length items) all → Popped all rest x
last_of {X} all items rest x is kept = popped all rest x (sym is ∙ kept ∙ ap (λ (xs : List X). take (length xs) all) is)

-- what stands at a place of a list that another one gives
pub mapped_at : {X Y : Type 0} (f : X → Y) (xs : List X) (k : ℕ) (x : X) (y : Y) → k < length xs → x ≡ slice_index_or xs k x → y ≡ slice_index_or (map f xs) k y → y ≡ f x
mapped_at f [] k x y inside first second = absurd (omega (arith, inside))
mapped_at f (z ∷ xs) zero x y inside first second = second ∙ ap f (sym first)
mapped_at f (z ∷ xs) (suc k) x y inside first second = mapped_at f xs k x y (omega (arith, inside)) first second

kept_is : (least greatest : ℕ) → option_map_or (λ bounds. bounds.0) (given_bounds least greatest) 0 ≡ least
kept_is least greatest =
    (elim (least == 0 && greatest == 0) as (λ b. (least == 0 && greatest == 0) ≡ b → option_map_or (λ (bounds : ℕ × ℕ). bounds.0) (if b then None else Some (least, greatest)) 0 ≡ least) [
      | true ↦ λ is. sym (eqb-true least 0 (and_parts _ _ is).0)
      | false ↦ λ _. refl
    ]) refl

-- a rail by its parts is the rail of the tree
pub rail_is : (nodes : List Node) (rails : List Found) (r : ℕ) (found : Found) (limits : Constraints) (supply : Option ℕ) (group : ℕ)
    → limits ≡ constraints_at nodes found.node found.desc → supply ≡ supply_of nodes rails found → group ≡ group_of nodes rails r found
    → rail_from found limits supply group ≡ rail_at nodes rails r found
rail_is nodes rails r found limits supply group first second third =
    let kept = kept_is (least_bound nodes found.node) (greatest_bound nodes found.node) in
    rw (first, second, third) (ap (λ uv. record (rail_at nodes rails r found) { kept_uv = uv }) kept)

module _ (nodes : List Node) (found : List Found) where
  pub supply_count : length (graph_of nodes found).supply ≡ length found
  supply_count = length-map found (supply_of nodes found)

  pub group_count : length (graph_of nodes found).group ≡ length found
  group_count = length-map (enumerate_from 0 found) (λ rail. group_of nodes found rail.0 rail.1) ∙ length-enumerate_from 0 found

module _ (nodes : List Node) (all : List RailNode) (r : ℕ) (x : RailNode) (inside : r < length all) (is : x ≡ slice_index_or all r x) where
  -- the rail at a place, with its names as bytes
  pub there : seen x ≡ slice_index_or (map seen all) r (seen x)
  there = ap seen is ∙ sym (get_or-map seen all r x)

  within : r < length (map seen all)
  within = let count = length-map all seen in omega (arith, inside, count)

  pub supply_there : (supplies : List (Option ℕ)) (y : Option ℕ) → supplies ≡ (graph_of nodes (map seen all)).supply → y ≡ slice_index_or supplies r y → y ≡ supply_of nodes (map seen all) (seen x)
  supply_there supplies y same at = mapped_at (supply_of nodes (map seen all)) (map seen all) r (seen x) y within there (subst (λ (l : List (Option ℕ)). y ≡ slice_index_or l r y) same at)

  pub group_there : (groups : List ℕ) (y : ℕ) → groups ≡ (graph_of nodes (map seen all)).group → y ≡ slice_index_or groups r y → y ≡ group_of nodes (map seen all) r (seen x)
  group_there groups y same at =
      let placed = there_at seen all r x inside is in
      mapped_at (λ (rail : ℕ × Found). group_of nodes (map seen all) rail.0 rail.1) (enumerate_from 0 (map seen all)) r (r, seen x) y placed.0 placed.1 (subst (λ (l : List ℕ). y ≡ slice_index_or l r y) same at)

  pub limits_there : (limits : List Constraints) (y : Constraints) → limits ≡ map (λ (rail : Found). constraints_at nodes rail.node rail.desc) (map seen all) → y ≡ slice_index_or limits r y → y ≡ constraints_at nodes x.node x.desc
  limits_there limits y same at = mapped_at (λ (rail : Found). constraints_at nodes rail.node rail.desc) (map seen all) r (seen x) y within there (subst (λ (l : List Constraints). y ≡ slice_index_or l r y) same at)

  -- with the rail before those that are built
  pub one_before : (rails : List Rail) (rail : Rail) → map trimmed (reverse rails) ≡ map (λ (p : ℕ × Found). rail_at nodes (map seen all) p.0 p.1) (drop (r + 1) (enumerate_from 0 (map seen all)))
      → trimmed rail ≡ rail_at nodes (map seen all) r (seen x)
      → map trimmed (reverse (rails ++ rail ∷ [])) ≡ map (λ (p : ℕ × Found). rail_at nodes (map seen all) p.0 p.1) (drop r (enumerate_from 0 (map seen all)))
  one_before rails rail built new =
      let g : ℕ × Found → Rail = λ p. rail_at nodes (map seen all) p.0 p.1 in
      ap (map trimmed) (reverse-append rails (rail ∷ []))
      ∙ ap (λ rest. trimmed rail ∷ rest) built
      ∙ ap (λ first. first ∷ map g (drop (r + 1) (enumerate_from 0 (map seen all)))) new
      ∙ ap (map g) (sym (place_at seen all r x inside is))

pub none_yet : (nodes : List Node) (all : List RailNode) → [] ≡ map (λ (p : ℕ × Found). rail_at nodes (map seen all) p.0 p.1) (drop (length all) (enumerate_from 0 (map seen all)))
none_yet nodes all =
    let few : length all ≤ length all = omega arith in
    ap (map (λ (p : ℕ × Found). rail_at nodes (map seen all) p.0 p.1)) (sym (none_left (enumerate_from 0 (map seen all)) (length all) (places_end seen all (length all) few)))

-- within a list the default says nothing
pub same_default : {X : Type 0} (xs : List X) (r : ℕ) (d : X) → r < length xs → get_or xs r d ≡ slice_index_or xs r (get_or xs r d)
same_default [] r d inside = absurd (omega (arith, inside))
same_default (x ∷ xs) zero d inside = refl
same_default (x ∷ xs) (suc r) d inside = same_default xs r d (omega (arith, inside))
