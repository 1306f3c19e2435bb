use Rattle.std.proofs.Common.{◌<◌, [], length, arith, ap, ◌∙◌}
use Rattle.std.proofs.lemmas.List.{get_or-map}
use Rattle.reg_outside.specs.MemWire.{WireState, new_wire}
use Rattle.reg_outside.proofs.mem_lab.MemLab.new.Goals as goal

pub returns-clause-wires : goal.returns-clause-wires
returns-clause-wires c =
    λ n within.
    let wire = new_wire c.args.room [] in
    let there : n < length c.in_ok-wires.wires.items = omega (arith, c.in_ok-wires.ensures.count, c.from.ensures) in
    let room_of = λ (w : WireState). w.room in
    get_or-map room_of c.in_ok-wires.wires.items n wire 0 there ∙ ap room_of (c.in_ok-wires.ensures.each n wire there)
