use Rattle.std.proofs.Common.{◌∙◌, sym, arith}
use Rattle.std.proofs.lemmas.List.{at_drop_all}
use Rattle.dts_lex.specs.Scan.{string_end}
use Rattle.dts_lex.proofs.ScanLemmas.{string_end_plain, string_end_closed, string_end_other, string_end_cut, string_end_unescaped, string_end_escape}
use Rattle.dts_lex.proofs.scan.string_end.Goals as goal

pub returns-then-b-eq34 : goal.returns-then-b-eq34
returns-then-b-eq34 c =
    sym (string_end_closed c.args.quote c.loop-at.at c.args.text.now c.loop-at-test.true c.if-b-eq34.true) ∙ c.loop-at.invariant.same_end

pub returns-then-at-text : goal.returns-then-at-text
returns-then-at-text c =
    sym (string_end_cut c.args.quote c.loop-at.at c.args.text.now c.if-at-text.true c.if-b-eq92.true) ∙ c.loop-at.invariant.same_end

pub returns-then-not-is_escaped : goal.returns-then-not-is_escaped
returns-then-not-is_escaped c =
    sym (string_end_unescaped c.args.quote c.loop-at.at c.args.text.now (omega arith) c.if-b-eq92.true (sym c.if-not-is_escaped.ensures)) ∙ c.loop-at.invariant.same_end

pub loop-at-preserved-then-b-eq92 : goal.loop-at-preserved-then-b-eq92
loop-at-preserved-then-b-eq92 c = grind (arith, string_end_escape)

pub loop-at-preserved : goal.loop-at-preserved
loop-at-preserved c = record {
  inside = omega arith;
  same_end = string_end_plain c.args.quote c.loop-at.at c.args.text.now c.loop-at-test.true c.if-b-eq34.false c.if-b-eq92.false (sym c.if-is_plain.ensures) ∙ c.loop-at.invariant.same_end;
}

pub returns-else-is_plain : goal.returns-else-is_plain
returns-else-is_plain c =
    sym (string_end_other c.args.quote c.loop-at.at c.args.text.now c.loop-at-test.true c.if-b-eq34.false c.if-b-eq92.false (sym c.if-is_plain.ensures)) ∙ c.loop-at.invariant.same_end

pub returns : goal.returns
returns c = sym (at_drop_all (string_end c.args.quote c.loop-at.at) c.args.text.now c.loop-at.at c.loop-at-test.false) ∙ c.loop-at.invariant.same_end
