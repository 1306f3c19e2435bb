use Rattle.std.proofs.Common.{◌≡◌, [], length, All}
use Rattle.reg_outside.specs.MemWire.{new_wire}
use Rattle.reg_outside.proofs.mem_lab.wires_with_room.Given as goal

abbrev pub invariant-loop : goal.invariant-loop
invariant-loop l = (length l.wires.items ≡ l.counter) × All (λ wire. wire ≡ new_wire l.room []) l.wires.items
