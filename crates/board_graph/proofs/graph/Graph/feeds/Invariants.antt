use Rattle.std.proofs.Common.{◌≡◌}
use Rattle.board_graph.specs.Inside.Blocks.{feeds_of}
use Rattle.board_graph.proofs.graph.Graph.feeds.Given as goal

abbrev pub invariant-loop-rail : goal.invariant-loop-rail
invariant-loop-rail l = l.feeds ≡ feeds_of l.self l.leaders l.only_linked l.rail
