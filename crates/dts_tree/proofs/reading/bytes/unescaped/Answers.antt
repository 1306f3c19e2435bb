use Rattle.std.proofs.Common.{◌+◌, ◌++◌, ◌∙◌, ap, sym, drop, get_or, arith}
use Rattle.std.proofs.lemmas.List.{append-nil, drop_all}
use Rattle.std.proofs.lemmas.Result.{IfOk-from_err}
use Rattle.dts_tree.specs.Lexeme.{escaped, unescaped}
use Rattle.dts_tree.proofs.BytesLemmas.{unescaped_escape, unescaped_other, unescaped_end, left_on}
use Rattle.dts_tree.proofs.reading.bytes.unescaped.Goals as goal
use Rattle.dts_tree.proofs.reading.bytes.unescaped.Goals.{else-b-eq92-via-then-b-eq92+else-at-inside, else-b-eq92-via-else-b-eq92}

pub loop-at-preserved : goal.loop-at-preserved
loop-at-preserved c =
    let bytes = c.args.inside.now in
    let at = c.loop-at.at in
    record {
      inside = omega arith;
      left = rw c.in_ok-push-2.ensures.items (left_on c.loop-at.bytes.items (get_or bytes at 0) (unescaped (drop (at + 1) bytes)) (unescaped bytes) (unescaped (drop at bytes)) c.loop-at.invariant.left
          (elim c.else-b-eq92.branch [
            | else-b-eq92-via-then-b-eq92+else-at-inside w ↦ unescaped_end bytes at c.loop-at-test.true w.if-at-inside.false
            | else-b-eq92-via-else-b-eq92 w ↦ unescaped_other bytes at c.loop-at-test.true w.if-b-eq92.false
          ]));
    }

pub loop-at-preserved-then-at-inside : goal.loop-at-preserved-then-at-inside
loop-at-preserved-then-at-inside c =
    let bytes = c.args.inside.now in
    let at = c.loop-at.at in
    record {
      inside = omega arith;
      left = rw (c.in_ok-push.ensures.items, c.escaped.ensures) (left_on c.loop-at.bytes.items (escaped (get_or bytes (at + 1) 0)) (unescaped (drop (at + 2) bytes)) (unescaped bytes) (unescaped (drop at bytes)) c.loop-at.invariant.left (unescaped_escape bytes at c.if-at-inside.true c.if-b-eq92.true));
    }

pub returns : goal.returns
returns c =
    sym (append-nil c.loop-at.bytes.items) ∙ ap (λ rest. c.loop-at.bytes.items ++ unescaped rest) (sym (drop_all c.loop-at.at c.args.inside.now c.loop-at-test.false)) ∙ c.loop-at.invariant.left

pub returns-in_err-push : goal.returns-in_err-push
returns-in_err-push c = IfOk-from_err _ _ c.from_residual.ensures.0

pub returns-in_err-push-2 : goal.returns-in_err-push-2
returns-in_err-push-2 c = IfOk-from_err _ _ c.from_residual-in_err-push-2.ensures.0
