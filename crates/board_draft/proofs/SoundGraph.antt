-- The graph of a tree's rails is one.
use Rattle.std.proofs.Common.{◌≡◌, ◌<◌, ◌≤◌, ◌+◌, ◌==◌, ℕ, Bool, true, false, List, [], ◌∷◌, Option, None, Some, sym, ◌∙◌, arith, length, get_or, IfSome, option_and_then}
use Rattle.std.specs.Prelude.{find, if◌then◌else◌}
use Rattle.std.specs.List.{enumerate_from}
use Rattle.std.specs.Option.{option_map}
use Rattle.std.proofs.lemmas.List.{length-map}
use Rattle.std.proofs.lemmas.List.Elements.{All-map}
use Rattle.std.proofs.lemmas.List.FromFn.{length-enumerate_from}
use Rattle.dts_tree.specs.Tree.{Node}
use Rattle.dts_tree.specs.Look.{target_of}
use Rattle.dts_nodes.specs.Forms.{told_by}
use Rattle.board_graph.specs.Graph.{count_of, IsGraph}
use Rattle.board_nodes.specs.Rails.{Found}
use Rattle.board_draft.specs.Links.{supply_form, rail_of_node, rail_of_cell, supply_of, group_of, graph_of}

-- what follows a value that may be there
then_holds : {A B : Type 0} (f : A → Option B) (P : B → Type 0) (o : Option A) → ((x : A) → IfSome (f x) P) → IfSome (option_and_then f o) P
then_holds f P None holds = tt
then_holds f P (Some x) holds = holds x

-- the number of an item is within the list
numbered_within : {X : Type 0} (test : ℕ × X → Bool) (m n : ℕ) (xs : List X) → n + length xs ≤ m → IfSome (option_map (λ (p : ℕ × X). p.0) (find test (enumerate_from n xs))) (λ k. k < m)
numbered_within test m n [] few = tt
numbered_within {X} test m n (x ∷ xs) few =
    elim (test (n, x)) as (λ b. IfSome (option_map (λ (p : ℕ × X). p.0) (if b then Some (n, x) else find test (enumerate_from (n + 1) xs))) (λ k. k < m)) [
      | true ↦ omega (arith, few)
      | false ↦ numbered_within test m (n + 1) xs (omega (arith, few))
    ]

-- what a cell stands for is a rail, where it is there
rail_within : (nodes : List Node) (rails : List Found) (cell : _) → IfSome (rail_of_cell nodes rails cell) (λ s. s < length rails)
rail_within nodes rails cell = then_holds (rail_of_node rails) (λ s. s < length rails) (target_of nodes cell) (λ node. numbered_within (λ (rail : ℕ × Found). rail.1.node == node) (length rails) 0 rails (omega arith))

-- a supply is a rail
pub supply_within : (nodes : List Node) (rails : List Found) (rail : Found) → IfSome (supply_of nodes rails rail) (λ s. s < length rails)
supply_within nodes rails rail = then_holds (rail_of_cell nodes rails) (λ s. s < length rails) (told_by (supply_form nodes rail)) (rail_within nodes rails)

-- there are as many groups as rails
count-graph_of : (nodes : List Node) (rails : List Found) → count_of (graph_of nodes rails) ≡ length rails
count-graph_of nodes rails = length-map (enumerate_from 0 rails) (λ rail. group_of nodes rails rail.0 rail.1) ∙ length-enumerate_from 0 rails

-- of so few rails that each has a number
pub graph_is_graph : (nodes : List Node) (rails : List Found) → length rails ≤ 64 → IsGraph (graph_of nodes rails)
graph_is_graph nodes rails few =
    let count : count_of (graph_of nodes rails) ≡ length rails = count-graph_of nodes rails in
    record {
      supplies = length-map rails _ ∙ sym count;
      links = length-map rails _ ∙ sym count;
      few = omega arith;
      rails = All-map (λ supply. IfSome supply (λ s. s < count_of (graph_of nodes rails))) (supply_of nodes rails) rails
          (λ k d _. rw count (supply_within nodes rails (get_or rails k d)));
    }
