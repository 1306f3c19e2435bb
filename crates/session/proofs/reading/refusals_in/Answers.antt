use Rattle.std.proofs.Common.{◌++◌, [], ◌∷◌, take, sym, ap, ◌∙◌}
use Rattle.std.proofs.lemmas.List.{append-nil}
use Rattle.session.specs.declared.setup.Setup.TheVariants.{Register}
use Rattle.session.specs.Loading.{refusals_in}
use Rattle.session.proofs.Registers.{refused_more}
use Rattle.session.proofs.reading.refusals_in.Goals as goal
use Rattle.session.proofs.reading.refusals_in.Goals.{in-Refusal+in_ok-push, in_default}

pub loop-line-preserved : goal.loop-line-preserved
loop-line-preserved c =
    let setup = c.args.setup.now in
    let before = refusals_in (take c.loop-line.line-index setup) in
    let more = refused_more setup c.loop-line.line-index (Register 0 0 0) c.loop-line-test.true in
    elim c.match-line.branch [
      | in-Refusal+in_ok-push w ↦
          w.refusals-is ∙ w.in_ok-push.ensures.ok ∙ ap (λ told. told ++ (w.in-Refusal.worker, w.in-Refusal.update) ∷ []) c.loop-line.invariant
          ∙ sym (more ∙ ap (λ line. before ++ refusals_in (line ∷ [])) w.in-Refusal.is)
      | in_default w ↦
          w.refusals-is ∙ c.loop-line.invariant ∙ sym (more ∙ ap (λ line. before ++ refusals_in (line ∷ [])) w.in_default.is ∙ append-nil before)
    ]
