use Rattle.std.proofs.Common.{◌∙◌, sym, arith}
use Rattle.dts_lex.proofs.ScanLemmas.{run_end_more, run_end_stop, run_end_past}
use Rattle.dts_lex.proofs.scan.run_end.Goals as goal

pub loop-end-preserved : goal.loop-end-preserved
loop-end-preserved c = record {
  inside = omega arith;
  same_end = run_end_more c.args.class c.args.text.now c.loop-end.end c.loop-end-test.true (sym c.if-has.ensures) ∙ c.loop-end.invariant.same_end;
}

pub returns-else-has : goal.returns-else-has
returns-else-has c = sym (run_end_stop c.args.class c.args.text.now c.loop-end.end c.loop-end-test.true (sym c.if-has.ensures)) ∙ c.loop-end.invariant.same_end

pub returns-after-loop-end : goal.returns-after-loop-end
returns-after-loop-end c = sym (run_end_past c.args.class c.args.text.now c.loop-end.end c.loop-end-test.false) ∙ c.loop-end.invariant.same_end
