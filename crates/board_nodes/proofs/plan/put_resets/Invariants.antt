use Rattle.std.proofs.Common.{◌≡◌, ◌++◌, map, take}
use Rattle.board_nodes.proofs.plan.put_resets.Given as goal

abbrev pub invariant-loop-register : goal.invariant-loop-register
invariant-loop-register l = l.resets ≡ l.fn.resets ++ map (λ reset. (l.number, reset.0, reset.1)) (take l.register-index l.registers)
