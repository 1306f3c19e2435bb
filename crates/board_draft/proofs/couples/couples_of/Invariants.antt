use Rattle.std.proofs.Common.{◌≡◌, ℕ, map, take}
use Rattle.std.specs.Prelude.{find}
use Rattle.std.specs.List.{enumerate_from}
use Rattle.std.specs.Option.{option_map}
use Rattle.board_nodes.specs.Rails.{Found, seen}
use Rattle.board_draft.specs.Links.{named_by, names_badly}
use Rattle.board_draft.proofs.couples.couples_of.Given as goal

abbrev pub invariant-loop-r : goal.invariant-loop-r
invariant-loop-r l =
    let rails = map seen l.rails in
    record {
      named : l.named.items ≡ map (λ rail. named_by l.tree rails (seen rail)) (take l.r l.rails);
      bad : l.bad ≡ option_map (λ (rail : ℕ × Found). rail.0) (find (λ (rail : ℕ × Found). names_badly l.tree rails rail.0 rail.1) (take l.r (enumerate_from 0 rails)));
    }
