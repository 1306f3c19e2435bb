use Rattle.std.proofs.Common.{◌≡◌, ◌<◌, [], length, arith, inl}
use Rattle.board_graph.specs.declared.visit.Visit.TheVariants.{New}
use Rattle.board_graph.specs.Inside.Walk.{visit_of}
use Rattle.board_graph.proofs.WalkOpened.{opened_sound, go_on, opened_seen, other_seen, opened_grows_from}
use Rattle.board_graph.proofs.WalkEnds.{rests_bare, seen_on, none_open, grows_from}
use Rattle.board_graph.proofs.WalkKept.{stays, goes_on}
use Rattle.board_graph.proofs.walk.Walk.visit.Goals as goal
use Rattle.board_graph.proofs.walk.Walk.visit.Goals.{in-New+in_ok-open, in_default}

pub loop-init : goal.loop-init
loop-init c = elim c.match-visit.branch [
  | in-New+in_ok-open w ↦
      let walk = c.args.self.now in
      let next = c.args.next.now in
      let is = c.requires.rest.sound in
      let below : c.args.root < length walk.visits = omega (arith, is.size, c.requires.vertex) in
      let new : visit_of walk.visits c.args.root ≡ New = rw c.as_slice.ensures at w.in-New.is in
      rw (w.self-is) (rw w.in_ok-open.ensures (record {
        sound = opened_sound next walk c.args.root is below new (λ i within. absurd (omega (arith, rests_bare next walk c.requires.rest)));
        goes = go_on next walk c.args.root is below new;
        from = opened_grows_from next walk.visits c.args.root (length walk.path);
        seen = opened_seen walk.visits c.args.root (length walk.path) below;
      }))
  | in_default w ↦ rw w.self-is (record {
    sound = c.requires.rest.sound;
    goes = stays c.args.self.now.visits;
    from = λ v seen. inl seen;
    seen = other_seen c.args.self.now.visits c.args.root (rw c.as_slice.ensures at w.in_default.not-New);
  })
]

pub loop-preserved : goal.loop-preserved
loop-preserved c = record {
  sound = c.in_ok-go.ensures.sound;
  goes = goes_on c.args.self.now.visits c.loop.self.visits c.go.new.self.visits c.loop.invariant.goes c.in_ok-go.ensures.goes;
  from = grows_from c.args.next.now c.args.self.now c.args.root c.loop.self.visits c.go.new.self.visits c.requires.rest c.loop.invariant.from c.in_ok-go.ensures.grows;
  seen = seen_on c.loop.self.visits c.go.new.self.visits c.args.root c.in_ok-go.ensures.goes c.loop.invariant.seen;
}

pub returns-clause-done : goal.returns-clause-done
returns-clause-done c =
    let rest : c.go.new.self.knots ≡ [] = rw c.if-branch.false at c.in_ok-go.ensures.rest in
    none_open c.args.next.now c.go.new.self (record { sound = c.in_ok-go.ensures.sound; rest = rest }) c.args.root
    (seen_on c.loop.self.visits c.go.new.self.visits c.args.root c.in_ok-go.ensures.goes c.loop.invariant.seen)

pub returns-clause-goes : goal.returns-clause-goes
returns-clause-goes c = goes_on c.args.self.now.visits c.loop.self.visits c.go.new.self.visits c.loop.invariant.goes c.in_ok-go.ensures.goes

pub returns-clause-from : goal.returns-clause-from
returns-clause-from c = grows_from c.args.next.now c.args.self.now c.args.root c.loop.self.visits c.go.new.self.visits c.requires.rest c.loop.invariant.from c.in_ok-go.ensures.grows
