use Rattle.std.proofs.Common.{◌≡◌, map, take}
use Rattle.board_load.specs.Start.{is_asked_on}
use Rattle.board_load.proofs.switched.holds_of.Given as goal

abbrev pub invariant-loop-rail : goal.invariant-loop-rail
invariant-loop-rail l = l.holds.items ≡ map (is_asked_on l.regs) (take l.rail-index l.board.rails)
