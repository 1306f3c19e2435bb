use Rattle.std.proofs.Common.{ℕ, subst, sym}
use Rattle.std.specs.Option.{MatchOption}
use Rattle.board_graph.specs.Graph.{IsOnBlockLoop}
use Rattle.board_graph.specs.Loops.{IsLeastSuch}
use Rattle.board_graph.specs.Ways.{Leads}
use Rattle.board_graph.specs.Inside.Net.{IsNet, StepsTo}
use Rattle.board_graph.proofs.NetLemmas.{leaders_rails}
use Rattle.board_graph.proofs.FeedNet.{down_net, block_found, found_ok}
use Rattle.board_graph.proofs.graph.Graph.block_loop.Goals as goal

pub least_on_loop-requires-clause-net : goal.least_on_loop-requires-clause-net
least_on_loop-requires-clause-net c =
    subst IsNet (sym c.as_slice.ensures)
    (down_net c.args.self.now c.args.leaders.now c.args.feeds.now c.requires.graph (leaders_rails c.args.self.now c.args.leaders.now c.requires.leaders) c.requires.feeds)

pub returns : goal.returns
returns c =
    let down = c.args.feeds.now.down in
    found_ok (λ found. MatchOption found ((v : ℕ) → ¬ Leads (StepsTo down) v v) (IsLeastSuch (λ v. Leads (StepsTo down) v v)))
    (λ found. MatchOption found ((r : ℕ) → ¬ IsOnBlockLoop c.args.self.now r) (IsLeastSuch (IsOnBlockLoop c.args.self.now))) c.least_on_loop.result
    (block_found c.args.self.now c.args.leaders.now c.args.feeds.now c.requires.graph c.requires.leaders c.requires.feeds) (rw c.as_slice.ensures at c.least_on_loop.ensures)
