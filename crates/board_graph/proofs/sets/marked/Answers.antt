use Rattle.std.proofs.Common.{◌∙◌, ◌++◌, ◌∷◌, [], ap, refl, sym}
use Rattle.std.proofs.lemmas.List.{append-nil}
use Rattle.board_graph.specs.Inside.Above.{marked}
use Rattle.board_graph.proofs.AboveLemmas.{marked_more}
use Rattle.board_graph.proofs.sets.marked.Goals as goal
use Rattle.board_graph.proofs.sets.marked.Goals.{then-mark+in_ok-push, else-mark}

pub loop-number-preserved : goal.loop-number-preserved
loop-number-preserved c =
    let more = marked_more c.args.marks.now c.loop-number.number in
    elim c.if-mark.branch [
      | then-mark+in_ok-push w ↦ w.numbers-is ∙ w.in_ok-push.ensures.ok ∙ ap (λ numbers. numbers ++ c.loop-number.number ∷ []) c.loop-number.invariant
          ∙ sym (more ∙ rw w.if-mark.true refl)
      | else-mark w ↦ w.numbers-is ∙ c.loop-number.invariant ∙ sym (more ∙ rw w.if-mark.false (append-nil (marked c.args.marks.now c.loop-number.number)))
    ]
