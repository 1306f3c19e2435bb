use Rattle.std.proofs.Common.{◌≡◌, ℕ, map, take}
use Rattle.std.specs.List.{enumerate_from}
use Rattle.board_nodes.specs.Rails.{Found, seen}
use Rattle.constraints.specs.Coupling.{stated_spread}
use Rattle.board_draft.specs.Links.{lacks_spread}
use Rattle.board_draft.proofs.Walks.{NoneBefore}
use Rattle.board_draft.proofs.spread.spreads_of.Given as goal

abbrev pub invariant-loop-r : goal.invariant-loop-r
invariant-loop-r l =
    let rails = map seen l.rails in
    record {
      found : NoneBefore (λ (rail : ℕ × Found). lacks_spread l.tree rail.1) (enumerate_from 0 rails) l.r;
      spreads : l.spreads.items ≡ map (λ rail. stated_spread l.tree rail.node) (take l.r l.rails);
    }
