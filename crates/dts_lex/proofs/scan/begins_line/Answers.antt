use Rattle.std.proofs.Common.{◌∙◌, sym, arith}
use Rattle.dts_lex.proofs.ScanLemmas.{begins_line_start, begins_line_newline, begins_line_blank, begins_line_not}
use Rattle.dts_lex.proofs.scan.begins_line.Goals as goal

pub returns-then-b-eq10 : goal.returns-then-b-eq10
returns-then-b-eq10 c = sym (begins_line_newline c.args.text.now c.loop-start.start c.loop-start-test.true (omega arith) c.if-b-eq10.true) ∙ c.loop-start.invariant.same_line

pub returns-then-not-is_blank : goal.returns-then-not-is_blank
returns-then-not-is_blank c = sym (begins_line_not c.args.text.now c.loop-start.start c.loop-start-test.true (omega arith) c.if-b-eq10.false (sym c.if-not-is_blank.ensures)) ∙ c.loop-start.invariant.same_line

pub loop-start-preserved : goal.loop-start-preserved
loop-start-preserved c = record {
  before = omega arith;
  same_line = begins_line_blank c.args.text.now c.loop-start.start c.loop-start-test.true (omega arith) c.if-b-eq10.false (sym c.if-not-is_blank.ensures) ∙ c.loop-start.invariant.same_line;
}

pub returns : goal.returns
returns c = sym (begins_line_start c.args.text.now c.loop-start.start (omega arith)) ∙ c.loop-start.invariant.same_line
