use Rattle.std.proofs.Common.{refl, sym, subst, ap, ◌∙◌, ◌-◌, arith, take, drop, length, length-drop}
use Rattle.std.proofs.lemmas.List.{take_all}
use Rattle.reg_outside.specs.Count.{Rose}
use Rattle.reg_outside.specs.Told.{with_more}
use Rattle.reg_outside.proofs.ToldFacts.{with_more-nil, with_more-take}
use Rattle.regulator_main.proofs.output.write_text.Goals as goal

pub loop-kept-init : goal.loop-kept-init
loop-kept-init g c = (omega arith, sym (with_more-nil _), refl)

pub loop-kept-preserved : goal.loop-kept-preserved
loop-kept-preserved g c =
    let text = c.args.text.now in
    let kept = c.loop-kept.kept in
    let n = c.in-Ok.n in
    let done = c.in-Ok.ensures in
    let whole = take_all (length text - kept) (drop kept text) (omega (arith, length-drop kept text)) in (
      omega (arith, done.within, ap length whole, length-drop kept text, c.loop-kept.invariant.0),
      done.appended ∙ ap (λ xs. with_more (g.K.Sink.written c.loop-kept.sink) (take n xs)) whole
          ∙ ap (λ told. with_more told (take n (drop kept text))) c.loop-kept.invariant.1 ∙ with_more-take (g.K.Sink.written c.args.sink.now) kept n text,
      done.ok_counts_nothing ∙ c.loop-kept.invariant.2,
    )

pub returns-in-Err : goal.returns-in-Err
returns-in-Err g c = record {
  whole = tt;
  count = tt;
  short = c.loop-kept-test.true;
  kept = c.in-Err.ensures.failed_writes_nothing ∙ c.loop-kept.invariant.1;
  failed = subst (λ n. Rose n (g.K.Sink.faults c.write.new.self)) c.loop-kept.invariant.2 c.in-Err.ensures.failed_counts;
}

pub returns : goal.returns
returns g c = record {
  whole = c.loop-kept.invariant.1 ∙ ap (with_more (g.K.Sink.written c.args.sink.now)) (take_all c.loop-kept.kept c.args.text.now c.loop-kept-test.false);
  count = c.loop-kept.invariant.2;
  short = tt;
  kept = tt;
  failed = tt;
}
