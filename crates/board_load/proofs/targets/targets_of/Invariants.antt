use Rattle.std.proofs.Common.{◌≡◌, map, take}
use Rattle.board_load.specs.Inside.Targets.{start_of}
use Rattle.board_load.proofs.targets.targets_of.Given as goal

abbrev pub invariant-loop-rail : goal.invariant-loop-rail
invariant-loop-rail l = l.values.items ≡ map (start_of l.regs) (take l.rail-index l.board.rails)
