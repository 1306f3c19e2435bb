use Rattle.std.proofs.Common.{refl, ap, ◌∙◌, [], ◌∷◌, arith}
use Rattle.std.proofs.lemmas.Bool.{false≢true}
use Rattle.std.proofs.lemmas.Result.{err_from_is_err_and}
use Rattle.reg_outside.specs.Told.{with_more}
use Rattle.regulator_main.proofs.Tries.{tried_taken, tried_refused}
use Rattle.regulator_main.proofs.Walked.{at_mask}
use Rattle.regulator_main.proofs.walk.write_field.Goals as goal

pub returns : goal.returns
returns g c =
    let field = c.args.field.now in
    record {
      registers = c.put.ensures.registers;
      reads = c.put.ensures.written;
      told = c.in_ok-update.ensures.accepted
          ∙ ap (λ bits. with_more (g.W.Wire.accepted c.args.wire.now) ((field.chip, field.reg, field.mask, bits) ∷ [])) (at_mask c.args.bits field.mask field.shift c.requires.fits (omega arith));
      counted = c.in_ok-update.ensures.ok_counts_nothing;
      same_registers = tt;
      not_told = tt;
      fault = tt;
      tried = tried_taken (g.W.Wire.plan c.args.wire.now) (g.W.Wire.plan c.update.new.self) c.in_ok-update.ensures.tried (λ planned. false≢true (c.in_ok-update.ensures.planned planned));
      tried_in_vain = tt;
      chips = c.put.ensures.chips;
    }

pub returns-in_err-update : goal.returns-in_err-update
returns-in_err-update g c =
    let exit = err_from_is_err_and c.from_residual.result c.from_residual.ensures.1 in
    rw exit.1 record {
      registers = tt;
      reads = tt;
      told = tt;
      counted = tt;
      same_registers = refl;
      not_told = c.in_err-update.ensures.refused;
      fault = c.in_err-update.ensures.refused_counts;
      tried = tt;
      tried_in_vain = tried_refused (g.W.Wire.plan c.args.wire.now) (g.W.Wire.plan c.update.new.self) c.in_err-update.ensures.tried;
      chips = refl;
    }

pub put-requires : goal.put-requires
put-requires g c = record { fits = c.requires.field; chip = c.requires.chip; room = c.requires.fits }
