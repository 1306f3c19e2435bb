use Rattle.std.proofs.Common.{◌∙◌, ℕ, ap, subst, sym}
use Rattle.std.specs.List.{range_with_len}
use Rattle.std.specs.Option.{MatchOption}
use Rattle.board_graph.specs.Graph.{count_of, IsOnSupplyLoop}
use Rattle.board_graph.specs.Loops.{IsLeastSuch}
use Rattle.board_graph.specs.Ways.{Leads}
use Rattle.board_graph.specs.Inside.Blocks.{AreRails}
use Rattle.board_graph.specs.Inside.Net.{IsNet, StepsTo}
use Rattle.board_graph.proofs.FeedNet.{down_net, own_rails, supply_found, found_ok}
use Rattle.board_graph.proofs.graph.Graph.supply_loop.Goals as goal

pub block_feeds-requires-clause-leaders : goal.block_feeds-requires-clause-leaders
block_feeds-requires-clause-leaders c =
    let graph = c.args.self.now in
    subst (AreRails (count_of graph)) (sym (c.as_slice.ensures ∙ c.in_ok-own.ensures ∙ ap (range_with_len 0) c.len.ensures)) (own_rails (count_of graph))

pub least_on_loop-requires-clause-net : goal.least_on_loop-requires-clause-net
least_on_loop-requires-clause-net c =
    let graph = c.args.self.now in
    let own = c.as_slice.ensures ∙ c.in_ok-own.ensures ∙ ap (range_with_len 0) c.len.ensures in
    subst IsNet (sym c.as_slice-2.ensures)
    (down_net graph (range_with_len 0 (count_of graph)) c.in_ok-feeds.feeds c.requires (own_rails (count_of graph)) (rw own at c.in_ok-feeds.ensures))

pub returns : goal.returns
returns c =
    let graph = c.args.self.now in
    let own = c.as_slice.ensures ∙ c.in_ok-own.ensures ∙ ap (range_with_len 0) c.len.ensures in
    let down = c.in_ok-feeds.feeds.down in
    found_ok (λ found. MatchOption found ((v : ℕ) → ¬ Leads (StepsTo down) v v) (IsLeastSuch (λ v. Leads (StepsTo down) v v)))
    (λ found. MatchOption found ((r : ℕ) → ¬ IsOnSupplyLoop graph r) (IsLeastSuch (IsOnSupplyLoop graph))) c.least_on_loop.result
    (supply_found graph c.in_ok-feeds.feeds c.requires (rw own at c.in_ok-feeds.ensures)) (rw c.as_slice-2.ensures at c.least_on_loop.ensures)
