use Rattle.std.proofs.Common.{◌≡◌}
use Rattle.board_graph.specs.Inside.Blocks.{led_by}
use Rattle.board_graph.proofs.blocks.led_by.Given as goal

abbrev pub invariant-loop-rail : goal.invariant-loop-rail
invariant-loop-rail l = l.rails ≡ led_by l.leaders l.marks l.rail
