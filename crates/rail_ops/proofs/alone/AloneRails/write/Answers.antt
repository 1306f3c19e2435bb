use Rattle.std.proofs.Common.{ℕ, List, sym, ap, subst, ◌∙◌, arith}
use Rattle.rail_ops.specs.Foreign.{foreign}
use Rattle.rail_ops.specs.Inside.Alone.{number_at, Fits}
use Rattle.rail_ops.proofs.AloneFields.{placed, room_of, number_kept, fits_after}
use Rattle.rail_ops.proofs.ForeignLaws.{foreign_put}
use Rattle.rail_ops.proofs.alone.AloneRails.write.Goals as goal

pub put-requires-clause-chip : goal.put-requires-clause-chip
put-requires-clause-chip c =
    let s = c.args.self.now in
    let is = sym c.field.ensures ∙ c.in-Some.is in
    let lies = placed s.board.now c.requires.fits.valid c.args.r.0 c.args.part c.in-Some.field is in
    omega (arith, lies.chip, c.requires.fits.chips)

pub returns-in-Some-clause-fits : goal.returns-in-Some-clause-fits
returns-in-Some-clause-fits c =
    let s = c.args.self.now in
    let is = sym c.field.ensures ∙ c.in-Some.is in
    let room = room_of s.board.now c.args.r.0 c.args.part c.in-Some.field c.args.number c.requires.room is in
    subst (λ (R : List (List ℕ)). Fits s.board.now R s.states.items) (sym c.put.ensures.registers)
    (fits_after s.board.now s.regs s.states.items c.args.r.0 c.args.part c.in-Some.field c.args.number c.requires.fits is room)

pub returns-in-Some-clause-others : goal.returns-in-Some-clause-others
returns-in-Some-clause-others c i other differ =
    let s = c.args.self.now in
    let fits = c.requires.fits in
    let is = sym c.field.ensures ∙ c.in-Some.is in
    let room = room_of s.board.now c.args.r.0 c.args.part c.in-Some.field c.args.number c.requires.room is in
    ap (λ R. number_at s.board.now R i other) c.put.ensures.registers
    ∙ number_kept s.board.now fits.valid s.regs fits.hold fits.chips c.args.r.0 i c.args.part other c.in-Some.field c.args.number is room differ

pub returns-in-Some-clause-base : goal.returns-in-Some-clause-base
returns-in-Some-clause-base c =
    let s = c.args.self.now in
    let fits = c.requires.fits in
    let is = sym c.field.ensures ∙ c.in-Some.is in
    let room = room_of s.board.now c.args.r.0 c.args.part c.in-Some.field c.args.number c.requires.room is in
    ap (foreign s.board.now) c.put.ensures.registers
    ∙ foreign_put s.board.now fits.valid s.regs fits.hold fits.chips c.args.r.0 c.args.part c.in-Some.field c.args.number is room
