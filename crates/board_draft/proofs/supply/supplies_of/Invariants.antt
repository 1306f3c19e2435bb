use Rattle.std.proofs.Common.{◌≡◌, ℕ, map, take}
use Rattle.std.specs.List.{enumerate_from}
use Rattle.board_nodes.specs.Rails.{Found, seen}
use Rattle.board_draft.specs.Links.{supply_of, lacks_supply}
use Rattle.board_draft.proofs.Walks.{NoneBefore}
use Rattle.board_draft.proofs.supply.supplies_of.Given as goal

abbrev pub invariant-loop-r : goal.invariant-loop-r
invariant-loop-r l =
    let rails = map seen l.rails in
    record {
      found : NoneBefore (λ (rail : ℕ × Found). lacks_supply l.tree rails rail.1) (enumerate_from 0 rails) l.r;
      supplies : l.supplies.items ≡ map (λ rail. supply_of l.tree rails (seen rail)) (take l.r l.rails);
    }
