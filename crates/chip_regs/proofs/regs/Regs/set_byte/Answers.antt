use Rattle.std.proofs.Common.{◌≡◌, ◌<◌, [], length, slice_index_or, arith, ◌∙◌, sym, ap, subst}
use Rattle.std.proofs.lemmas.List.{get_or_default}
use Rattle.chip_regs.specs.Registers.{with_byte, byte_of, chip_of, HasChip, IsImage}
use Rattle.chip_regs.proofs.Image.{set-registers, byte_of-with_byte, byte_of-with_byte_other}
use Rattle.chip_regs.proofs.regs.Regs.set_byte.Goals as goal

has : (c : goal.After-self-1) → HasChip c.self.inside.chips.items c.args.chip
has c = subst (λ R. HasChip R c.args.chip) (sym c.self.view_is) c.requires

pub returns-clause-registers : goal.returns-clause-registers
returns-clause-registers c =
    let R = c.self.inside.chips.items in
    let line : c.index_mut.result.now ≡ chip_of R c.args.chip =
    c.index_mut.ensures.value
    ∙ get_or_default R c.from.result c.index_mut.result.now [] (subst (λ k. k < length R) (sym c.from.ensures) (has c))
    ∙ ap (λ k. slice_index_or R k []) c.from.ensures in
    set-registers R c.args.chip c.args.reg c.args.byte c.from.result c.from-2.result c.index_mut.result.now c.from.ensures c.from-2.ensures line
    ∙ ap (λ R. with_byte R c.args.chip c.args.reg c.args.byte) c.self.view_is

pub returns-clause-written : goal.returns-clause-written
returns-clause-written c =
    ap (λ R. byte_of R c.args.chip c.args.reg) (returns-clause-registers c)
    ∙ byte_of-with_byte c.args.self.now c.args.chip c.args.reg c.args.byte (subst IsImage c.self.view_is c.self.invariant) c.requires (omega arith)

pub returns-clause-others : goal.returns-clause-others
returns-clause-others c chip reg apart =
    ap (λ R. byte_of R chip reg) (returns-clause-registers c)
    ∙ byte_of-with_byte_other c.args.self.now c.args.chip c.args.reg c.args.byte chip reg c.requires apart
