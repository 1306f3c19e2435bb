use Rattle.std.proofs.Common.{◌≡◌, map, take, []}
use Rattle.board_load.proofs.finishing.no_events.Given as goal

abbrev pub invariant-loop-rail : goal.invariant-loop-rail
invariant-loop-rail l = l.events ≡ map (λ _. []) (take l._rail-index l.board.rails)
