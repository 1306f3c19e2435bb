use Rattle.std.proofs.Common.{◌≡◌, ◌+◌, ap, arith, length, ◌∙◌}
use Rattle.std.proofs.lemmas.List.{length_push}
use Rattle.board_graph.proofs.WalkClosed.{settle_more}
use Rattle.board_graph.proofs.walk.Walk.settle.Goals as goal

pub loop-self-preserved-in-Some : goal.loop-self-preserved-in-Some
loop-self-preserved-in-Some c =
    let before = c.loop-self.invariant in
    let more = settle_more c.args.self.now.visits c.loop-self.self.visits c.args.self.now.path c.loop-self.self.path c.pop.new.self c.in-Some.done c.args.on_loop
    c.requires.vertices c.in-Some.ensures before.path before.to before.visits in
    let fewer : length c.loop-self.self.path ≡ length c.pop.new.self + 1 = ap length c.in-Some.ensures ∙ length_push c.pop.new.self c.in-Some.done in
    record {
      from = omega (arith, fewer, c.len.ensures);
      to = omega (arith, fewer);
      path = more.0;
      visits = rw c.set.ensures more.1;
      pending = before.pending;
      knots = before.knots;
    }
