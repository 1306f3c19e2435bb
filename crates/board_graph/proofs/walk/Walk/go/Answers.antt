use Rattle.std.proofs.Common.{◌-◌, length, take, sym, ◌∙◌}
use Rattle.board_graph.proofs.Pops.{last_is}
use Rattle.board_graph.proofs.WalkClosed.{after_sound, after_goes, after_less, after_grows}
use Rattle.board_graph.proofs.walk.Walk.go.Goals as goal

pub returns-then-len-knot-clause-sound : goal.returns-then-len-knot-clause-sound
returns-then-len-knot-clause-sound c =
    let walk = c.args.self.now in
    let top = last_is walk.knots c.in-Some.knot.now (rw c.as_slice.ensures at (sym c.in-Some.ensures.value)) in
    after_sound c.args.next.now walk c.close.new.self (take (length walk.knots - 1) walk.knots) c.in-Some.knot.now c.requires.sound top
    (sym c.len.ensures ∙ c.if-len-knot.true) c.close.ensures.visits c.close.ensures.path c.close.ensures.pending (c.close.ensures.knots _ top)

pub returns-then-len-knot-clause-goes : goal.returns-then-len-knot-clause-goes
returns-then-len-knot-clause-goes c =
    let walk = c.args.self.now in
    let top = last_is walk.knots c.in-Some.knot.now (rw c.as_slice.ensures at (sym c.in-Some.ensures.value)) in
    after_goes c.args.next.now walk c.close.new.self (take (length walk.knots - 1) walk.knots) c.in-Some.knot.now c.requires.sound top
    (sym c.len.ensures ∙ c.if-len-knot.true) c.close.ensures.visits c.close.ensures.path c.close.ensures.pending (c.close.ensures.knots _ top)

pub returns-then-len-knot-clause-nearer : goal.returns-then-len-knot-clause-nearer
returns-then-len-knot-clause-nearer c =
    let walk = c.args.self.now in
    let top = last_is walk.knots c.in-Some.knot.now (rw c.as_slice.ensures at (sym c.in-Some.ensures.value)) in
    after_less c.args.next.now walk c.close.new.self (take (length walk.knots - 1) walk.knots) c.in-Some.knot.now c.requires.sound top
    (sym c.len.ensures ∙ c.if-len-knot.true) c.close.ensures.visits c.close.ensures.path c.close.ensures.pending (c.close.ensures.knots _ top)

pub returns-then-len-knot-clause-grows : goal.returns-then-len-knot-clause-grows
returns-then-len-knot-clause-grows c =
    let walk = c.args.self.now in
    let top = last_is walk.knots c.in-Some.knot.now (rw c.as_slice.ensures at (sym c.in-Some.ensures.value)) in
    after_grows c.args.next.now walk c.close.new.self (take (length walk.knots - 1) walk.knots) c.in-Some.knot.now c.requires.sound top
    (sym c.len.ensures ∙ c.if-len-knot.true) c.close.ensures.visits c.close.ensures.path c.close.ensures.pending (c.close.ensures.knots _ top)
