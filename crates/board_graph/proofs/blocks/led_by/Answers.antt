use Rattle.std.proofs.Common.{◌∙◌, ◌++◌, ◌∷◌, [], ap, refl, sym}
use Rattle.std.proofs.lemmas.List.{append-nil}
use Rattle.board_graph.specs.Inside.Blocks.{led_by}
use Rattle.board_graph.proofs.BlockLemmas.{led_more}
use Rattle.board_graph.proofs.blocks.led_by.Goals as goal
use Rattle.board_graph.proofs.blocks.led_by.Goals.{then-marks-leaders+in_ok-push, else-marks-leaders}

pub loop-rail-preserved : goal.loop-rail-preserved
loop-rail-preserved c =
    let more = led_more c.args.leaders.now c.args.marks.now c.loop-rail.rail in
    elim c.if-marks-leaders.branch [
      | then-marks-leaders+in_ok-push w ↦ w.rails-is ∙ w.in_ok-push.ensures.ok ∙ ap (λ rails. rails ++ c.loop-rail.rail ∷ []) c.loop-rail.invariant
          ∙ sym (more ∙ rw w.if-marks-leaders.true refl)
      | else-marks-leaders w ↦ w.rails-is ∙ c.loop-rail.invariant ∙ sym (more ∙ rw w.if-marks-leaders.false (append-nil (led_by c.args.leaders.now c.args.marks.now c.loop-rail.rail)))
    ]
