use Rattle.std.proofs.Common.{refl, sym, subst, ◌∙◌}
use Rattle.std.proofs.lemmas.List.{get_or-map, map-set}
use Rattle.reg_outside.specs.MemWire.{WireState, AcceptsNext}
use Rattle.reg_outside.proofs.Plans.{AcceptsNext-new_wire}
use Rattle.reg_outside.proofs.mem_lab.MemLabLab.wire.Goals as goal

pub returns-then-at-len-clause-given : goal.returns-then-at-len-clause-given
returns-then-at-len-clause-given c =
    let there = rw (c.len.ensures, c.self.inside.wires.ok.0) at c.if-at-len.true in
    rw (← c.self.view_is, ← c.from-at.ensures, get_or-map (λ (w : WireState). w.room) c.self.inside.wires.items c.from-at.result c.index_mut.result.now 0 there)
    (c.replace.ensures.value ∙ c.index_mut.ensures.value ∙ c.self.invariant.2 _ _ there)

pub returns-then-at-len-clause-taken : goal.returns-then-at-len-clause-taken
returns-then-at-len-clause-taken c =
    rw (← c.self.view_is, ← c.from-at.ensures, map-set, c.replace.ensures.after, c.without_room-without_room.ensures) refl

pub returns-then-at-len-clause-room : goal.returns-then-at-len-clause-room
returns-then-at-len-clause-room c = λ n within. subst (λ w. AcceptsNext w n) (sym (returns-then-at-len-clause-given c)) (AcceptsNext-new_wire _ n within)
