use Rattle.std.proofs.Common.{◌≡◌, ◌∷◌, Option, refl, sym, ap, subst, ◌∙◌, arith, drop, length}
use Rattle.std.specs.Prelude.{IfSome}
use Rattle.reg_outside.specs.Count.{Rose}
use Rattle.linear_range.specs.Pick.{pair_of}
use Rattle.chip_regs.specs.declared.field.Field.{Field}
use Rattle.chip_regs.specs.Field.{FitsField}
use Rattle.board.specs.declared.part.Part.TheVariants.{Selector}
use Rattle.board.specs.Rail.{uv}
use Rattle.board.specs.Desc.{IsPlaced, HoldsSelectors}
use Rattle.rail_law.specs.Moves.{Move, selector_for}
use Rattle.regulator_main.specs.Inside.Way.{moves_to}
use Rattle.regulator_main.specs.Walk.{Tried, all_made}
use Rattle.regulator_main.proofs.Walked.{walked_none, within_from_rest, walked_more, rest_more, walked_all, selector_for-first, field_of_selector, fits_byte, uv_written, moves_to-step, none_left, made_is_all}
use Rattle.regulator_main.proofs.Tries.{tried_none, tried_one_more, tried_stop}
use Rattle.regulator_main.proofs.walk.walk.Given as given
use Rattle.regulator_main.proofs.walk.walk.Goals as goal
use Rattle.regulator_main.proofs.walk.walk.Goals.{After-toward-pick}

-- the selector that is written fits its field
fits : (g : given.Over) (c : After-toward-pick g) → FitsField c.args.field c.toward-pick.result.sel
fits g c =
    let holds = subst (λ (o : Option Field). IfSome o (HoldsSelectors c.args.rail.now.desc.table)) c.requires.selector c.requires.sound.desc.selector in
    let value = c.toward-pick.ensures.value c.requires.changeable in
    (holds c.toward-pick.result.sel).1 (rw value refl)

-- the selector's field is in the registers
placed : (g : given.Over) (c : After-toward-pick g) → IsPlaced (length c.args.regs.now) c.args.field
placed g c = subst (λ (o : Option Field). IfSome o (IsPlaced (length c.args.regs.now))) c.requires.selector (c.requires.sound.desc.placed Selector)

pub write_field-requires-clause-field : goal.write_field-requires-clause-field
write_field-requires-clause-field g c = (placed g (goal.at.write_field-requires-clause-field g c).After-toward-pick).shape

pub write_field-requires-clause-chip : goal.write_field-requires-clause-chip
write_field-requires-clause-chip g c = let here = (placed g (goal.at.write_field-requires-clause-chip g c).After-toward-pick).chip in omega (arith, c.loop-at.invariant.chips)

-- the next move
abbrev move : (g : given.Over) (c : After-toward-pick g) → Move
move g c = record { rail = c.args.id; part = Selector; bits = selector_for c.args.rail.now c.toward-pick.result.uv }

pub write_field-requires-clause-fits : goal.write_field-requires-clause-fits
write_field-requires-clause-fits g c = fits g (goal.at.write_field-requires-clause-fits g c).After-toward-pick

pub overflow_cast-pick : goal.overflow_cast-pick
overflow_cast-pick g c = let below = fits_byte c.args.field c.toward-pick.result.sel (fits g (goal.at.overflow_cast-pick g c).After-toward-pick) (omega arith) in omega arith

-- the moves that are left begin with the next one
next_left : (g : given.Over) (c : After-toward-pick g) →
    drop c.loop-at.made (moves_to c.args.id c.args.rail.now (uv c.args.rail.now c.args.regs.now) c.args.target)
    ≡ move g c ∷ moves_to c.args.id c.args.rail.now c.toward-pick.result.uv c.args.target
next_left g c = sym c.loop-at.invariant.rest ∙ moves_to-step c.args.id c.args.rail.now c.loop-at.at c.toward-pick.result.uv c.args.target c.toward-pick.ensures.next

pub loop-at-preserved : goal.loop-at-preserved
loop-at-preserved g c =
    let d = (goal.at.loop-at-preserved g c).After-toward-pick in
    let moves = moves_to c.args.id c.args.rail.now (uv c.args.rail.now c.args.regs.now) c.args.target in
    let rest = moves_to c.args.id c.args.rail.now c.toward-pick.result.uv c.args.target in
    let done = c.in-Ok.ensures in
    let field_is = field_of_selector c.args.board.now c.args.id c.args.rail.now c.args.field (selector_for c.args.rail.now c.toward-pick.result.uv) c.requires.place c.requires.selector in
    let sel_is = selector_for-first c.args.rail.now (pair_of c.toward-pick.result) c.toward-pick.ensures.first in
    let at_is = uv_written c.args.rail.now c.args.field c.write_field.new.regs c.toward-pick.result.sel c.toward-pick.result.uv c.requires.selector done.reads (c.toward-pick.ensures.value c.requires.changeable) in
    record {
      walked = walked_more c.args.board.now moves c.args.regs.now c.loop-at.regs c.write_field.new.regs (g.W.Wire.accepted c.args.wire.now) (g.W.Wire.accepted c.loop-at.wire) (g.W.Wire.accepted c.write_field.new.wire) c.loop-at.made (move g d) rest
          c.loop-at.invariant.walked (next_left g d) (rw (field_is, sel_is) done.registers) (rw (field_is, sel_is) done.told);
      rest = rest_more moves c.loop-at.made (move g d) rest (next_left g d);
      at = at_is;
      counted = done.counted ∙ c.loop-at.invariant.counted;
      tried = tried_one_more c.loop-at.made (g.W.Wire.plan c.args.wire.now) (g.W.Wire.plan c.loop-at.wire) (g.W.Wire.plan c.write_field.new.wire) c.loop-at.invariant.tried done.tried;
      chips = done.chips ∙ c.loop-at.invariant.chips;
      bound = omega (arith, c.toward-pick.ensures.nearer, c.loop-at.invariant.bound);
    }

pub returns : goal.returns
returns g c = record {
  there = walked_all c.args.board.now _ c.args.regs.now c.loop-at.regs (g.W.Wire.accepted c.args.wire.now) (g.W.Wire.accepted c.loop-at.wire) c.loop-at.made c.loop-at.invariant.walked
      (none_left c.args.id c.args.rail.now c.loop-at.at c.args.target c.loop-at.made _ c.loop-at.invariant.rest c.loop-at-test.false);
  counted = c.loop-at.invariant.counted;
  before_the_end = tt;
  stopped = tt;
  fault = tt;
  tried = subst (λ n. Tried (all_made n) (g.W.Wire.plan c.args.wire.now) (g.W.Wire.plan c.loop-at.wire))
      (made_is_all c.loop-at.made (moves_to c.args.id c.args.rail.now (uv c.args.rail.now c.args.regs.now) c.args.target) c.loop-at.invariant.walked.within
      (none_left c.args.id c.args.rail.now c.loop-at.at c.args.target c.loop-at.made _ c.loop-at.invariant.rest c.loop-at-test.false))
      c.loop-at.invariant.tried;
  tried_in_vain = tt;
  chips = c.loop-at.invariant.chips;
}

pub returns-in_default : goal.returns-in_default
returns-in_default g c =
    let d = (goal.at.returns-in_default g c).After-toward-pick in
    let before = c.loop-at.invariant in
    let stop = c.in_default.ensures in
    record {
      there = tt;
      counted = tt;
      before_the_end = within_from_rest _ c.loop-at.made (move g d) _ (next_left g d);
      stopped = rw (stop.same_registers, stop.not_told) before.walked.makes;
      fault = subst (λ n. Rose n (g.W.Wire.faults c.write_field.new.wire)) before.counted stop.fault;
      tried = tt;
      tried_in_vain = tried_stop c.loop-at.made (g.W.Wire.plan c.args.wire.now) (g.W.Wire.plan c.loop-at.wire) (g.W.Wire.plan c.write_field.new.wire) before.tried stop.tried_in_vain;
      chips = stop.chips ∙ before.chips;
    }

pub loop-at-init : goal.loop-at-init
loop-at-init g c =
    let moves = moves_to c.args.id c.args.rail.now (uv c.args.rail.now c.args.regs.now) c.args.target in
    record {
      walked = walked_none c.args.board.now moves c.args.regs.now (g.W.Wire.accepted c.args.wire.now);
      rest = ap (λ v. moves_to c.args.id c.args.rail.now v c.args.target) c.uv-at.ensures;
      at = c.uv-at.ensures;
      counted = refl;
      tried = tried_none (g.W.Wire.plan c.args.wire.now);
      chips = refl;
      bound = omega arith;
    }

pub toward-pick-requires : goal.toward-pick-requires
toward-pick-requires g c = record { apart = c.loop-at-test.true; allowed = c.requires.allowed }

pub loop-at-smaller : goal.loop-at-smaller
loop-at-smaller g c = c.toward-pick.ensures.nearer
