use Rattle.std.proofs.Common.{ap, ◌∙◌, ◌∷◌, [], arith}
use Rattle.std.proofs.lemmas.Bool.{false≢true}
use Rattle.reg_outside.specs.Told.{with_more}
use Rattle.rail_ops.proofs.AtMask.{at_mask}
use Rattle.rail_ops.proofs.Tries.{tried_taken}
use Rattle.rail_ops.proofs.switching.try_update.Goals as goal

pub returns-in-Ok-clause-taken : goal.returns-in-Ok-clause-taken
returns-in-Ok-clause-taken g c made =
    let field = c.args.field.now in
    record {
      taken = c.in-Ok.ensures.accepted
          ∙ ap (λ bits. with_more (g.W.Wire.accepted c.args.wire.now) ((field.chip, field.reg, field.mask, bits) ∷ [])) (at_mask c.args.number field.mask field.shift c.requires.room (omega arith));
      faults = c.in-Ok.ensures.ok_counts_nothing;
      tried = tried_taken (g.W.Wire.plan c.args.wire.now) (g.W.Wire.plan c.update.new.self) c.in-Ok.ensures.tried (λ planned. false≢true (c.in-Ok.ensures.planned planned));
    }
