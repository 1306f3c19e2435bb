use Rattle.std.proofs.Common.{◌∙◌, ◌++◌, ◌∷◌, [], ap, get_or, length, subst, sym}
use Rattle.std.proofs.lemmas.List.{take_all}
use Rattle.std.specs.List.{enumerate_from}
use Rattle.board_graph.specs.Inside.Lists.{turned, AreBelow}
use Rattle.board_graph.proofs.OrderLemmas.{numbered_more, numbered_below}
use Rattle.board_graph.proofs.order.members.Goals as goal

pub loop-rail-preserved : goal.loop-rail-preserved
loop-rail-preserved c =
    c.in_ok-push.ensures.ok ∙ ap (λ pairs. pairs ++ (get_or c.args.leaders.now c.loop-rail.rail 0, c.loop-rail.rail) ∷ []) c.loop-rail.invariant
    ∙ sym (numbered_more c.args.leaders.now c.loop-rail.rail c.loop-rail-test.true)

pub lists-requires : goal.lists-requires
lists-requires c =
    let all = take_all c.loop-rail.rail c.args.leaders.now c.loop-rail-test.false in
    subst (AreBelow (length c.args.leaders.now)) (sym (c.as_slice.ensures ∙ c.loop-rail.invariant ∙ ap (λ xs. turned (enumerate_from 0 xs)) all))
    (numbered_below (length c.args.leaders.now) c.args.leaders.now c.requires.leaders)
