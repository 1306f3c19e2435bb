use Rattle.std.proofs.Common.{◌≡◌, ◌+◌, ◌∙◌, ◌++◌, ◌∷◌, [], ap, arith, sym}
use Rattle.std.specs.List.{range_with_len}
use Rattle.board_graph.proofs.BlockLemmas.{range_push}
use Rattle.board_graph.proofs.order.numbers.Goals as goal

pub loop-number-preserved : goal.loop-number-preserved
loop-number-preserved c =
    let number : c.loop-number.number ≡ 0 + c.loop-number.number = omega arith in
    c.in_ok-push.ensures.ok ∙ ap (λ numbers. numbers ++ c.loop-number.number ∷ []) c.loop-number.invariant
    ∙ ap (λ k. range_with_len 0 c.loop-number.number ++ k ∷ []) number ∙ sym (range_push 0 c.loop-number.number)
