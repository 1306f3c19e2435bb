use Rattle.std.proofs.Common.{◌≡◌, ◌+◌, ◌*◌, ◌++◌, ◌∙◌, ap, sym, drop, get_or, arith}
use Rattle.std.specs.Char.{digit_value, is_digit}
use Rattle.std.proofs.lemmas.List.{append-nil}
use Rattle.dts_tree.specs.Lexeme.{bytes_of}
use Rattle.dts_tree.proofs.BytesLemmas.{bytes_of_more, bytes_of_end, left_on, all_pass}
use Rattle.dts_tree.proofs.reading.bytes.bytes_of.Goals as goal

pub loop-at-preserved : goal.loop-at-preserved
loop-at-preserved c =
    let word = c.args.word.now in
    let at = c.loop-at.at in
    let high : c.digit_of.result ≡ digit_value (get_or word at 0) = c.digit_of.ensures.value (all_pass (λ b. is_digit b 16) word at c.requires (omega arith)) in
    let low : c.digit_of-in-loop-at.result ≡ digit_value (get_or word (at + 1) 0) = c.digit_of-in-loop-at.ensures.value (all_pass (λ b. is_digit b 16) word (at + 1) c.requires c.loop-at-test.true) in
    record {
      inside = omega arith;
      left = rw (c.in_ok-push.ensures.items, high, low) (left_on c.loop-at.bytes.items (digit_value (get_or word at 0) * 16 + digit_value (get_or word (at + 1) 0)) (bytes_of (drop (at + 2) word)) (bytes_of word) (bytes_of (drop at word)) c.loop-at.invariant.left (bytes_of_more word at c.loop-at-test.true));
    }

pub returns : goal.returns
returns c =
    sym (append-nil c.loop-at.bytes.items) ∙ ap (λ rest. c.loop-at.bytes.items ++ rest) (sym (bytes_of_end c.args.word.now c.loop-at.at c.loop-at-test.false)) ∙ c.loop-at.invariant.left
