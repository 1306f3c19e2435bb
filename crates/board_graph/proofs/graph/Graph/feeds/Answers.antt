use Rattle.std.proofs.Common.{◌∙◌, ◌++◌, ◌∷◌, [], ap, refl, sym, slice_index}
use Rattle.std.proofs.lemmas.List.{append-nil}
use Rattle.board_graph.specs.Inside.Blocks.{feeds_of}
use Rattle.board_graph.proofs.BlockLemmas.{feeds_more}
use Rattle.board_graph.proofs.graph.Graph.feeds.Goals as goal
use Rattle.board_graph.proofs.graph.Graph.feeds.Goals.{in-Some+in_ok-push, in_default}

pub loop-rail-preserved : goal.loop-rail-preserved
loop-rail-preserved c =
    let more = feeds_more c.args.self.now c.args.leaders.now c.args.only_linked c.loop-rail.rail in
    elim c.match-feeder.branch [
      | in-Some+in_ok-push w ↦ w.feeds-is ∙ w.in_ok-push.ensures.ok
          ∙ ap (λ feeds. feeds ++ (slice_index c.args.leaders.now w.in-Some.upper, slice_index c.args.leaders.now c.loop-rail.rail) ∷ []) c.loop-rail.invariant
          ∙ sym (more ∙ rw (sym w.in-Some.ensures.feeder) refl)
      | in_default w ↦ w.feeds-is ∙ c.loop-rail.invariant ∙ sym (more ∙ rw (sym w.in_default.ensures.feeder) (append-nil (feeds_of c.args.self.now c.args.leaders.now c.args.only_linked c.loop-rail.rail)))
    ]
