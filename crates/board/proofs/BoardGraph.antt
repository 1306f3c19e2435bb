-- A sound board has a graph.
use Rattle.std.proofs.Common.{◌≡◌, ℕ, ◌<◌, Option, Some, None, sym, ap, ◌∙◌, subst, length, map}
use Rattle.std.specs.Prelude.{All, IfSome, option_map}
use Rattle.std.proofs.lemmas.List.{length-map}
use Rattle.std.proofs.lemmas.List.Elements.{All-map, All-weaker}
use Rattle.board_graph.specs.Graph.{count_of, IsRailCount, IsGraph}
use Rattle.board.specs.declared.board.Board.{Board}
use Rattle.board.specs.declared.rail_id.RailId.{RailId}
use Rattle.board.specs.Valid.{supply_of, IsSoundBoard}

-- a supply by its number
number_below : (n : ℕ) (supply : Option RailId) → IfSome supply (λ s. s.0 < n) → IfSome (option_map (λ s. s.0) supply) (λ s. s < n)
number_below n None is = tt
number_below n (Some s) is = is

pub sound_graph : (board : Board) → IsSoundBoard board → IsGraph board.graph
sound_graph board sound =
    let count : length board.rails ≡ count_of board.graph = sym (ap length sound.graph.groups ∙ length-map board.rails _) in
    record {
      supplies = ap length sound.graph.supplies ∙ length-map board.rails _ ∙ count;
      links = ap length sound.graph.links ∙ length-map board.rails _ ∙ count;
      few = subst IsRailCount count sound.few;
      rails =
          let Below : ℕ → Option ℕ → Type 0 = λ n supply. IfSome supply (λ s. s < n) in
          let numbers : All (Below (length board.rails)) (map supply_of board.rails) =
          All-map (Below (length board.rails)) supply_of board.rails
          (All-weaker (λ rail. IfSome rail.supply (λ s. s.0 < length board.rails)) (λ rail. Below (length board.rails) (supply_of rail))
          (λ rail. number_below (length board.rails) rail.supply) board.rails sound.graph.rails) in
          rw sound.graph.supplies (subst (λ (n : ℕ). All (Below n) (map supply_of board.rails)) count numbers);
    }
