use Rattle.std.proofs.Common.{◌≡◌, ◌-◌, ◌<◌, ◌++◌, ◌∷◌, [], ◌⊎◌, ℕ, List, length, get_or, take, sym, subst, arith, inl, inr}
use Rattle.std.proofs.lemmas.List.{length-take-le}
use Rattle.board_graph.specs.Ways.{Leads}
use Rattle.board_graph.specs.declared.knot.Knot.{Knot}
use Rattle.board_graph.specs.declared.walk.Walk.{Walk}
use Rattle.board_graph.specs.declared.visit.Visit.TheVariants.{New, Open}
use Rattle.board_graph.specs.Inside.Net.{StepsTo, IsNet}
use Rattle.board_graph.specs.Inside.Walk.{visit_of, IsDone, IsOpenFrom, IsSound}
use Rattle.board_graph.proofs.Pops.{popped_rest, last_apart, last_of}
use Rattle.board_graph.proofs.WalkFollowed.{to_vertex, all_lead, joined_sound, followed_sound, pending_seen}
use Rattle.board_graph.proofs.WalkOpened.{opened_sound, opened_less, opened_grows}
use Rattle.board_graph.proofs.walk.Walk.follow.Goals as goal
use Rattle.board_graph.proofs.walk.Walk.follow.Goals.{in_default-via-in-Open+else-at-knot, in_default-via-in_default}

-- where the last pending step leads
below_next : (next : List (List ℕ)) (walk : Walk) (rest : List Knot) (knot : Knot) (pending : List ℕ) (n : ℕ)
    → IsSound next walk → walk.knots ≡ rest ++ knot ∷ [] → knot.step < length walk.pending → IsNet next → pending ≡ walk.pending → n ≡ length walk.pending
    → get_or pending (n - 1) 0 < length next
below_next next walk rest knot pending n is top some net same count =
    rw (last_of pending walk.pending n same count) (to_vertex next walk rest knot (length walk.pending - 1) is top (omega arith) (omega arith) net)

pub bounds-as_slice-to : goal.bounds-as_slice-to
bounds-as_slice-to c =
    let below = below_next c.args.next.now c.args.self.now c.requires.last.0 c.args.knot c.as_slice.result.now c.len.result c.requires.sound c.requires.last.1 c.requires.some c.requires.net c.as_slice.ensures c.len.ensures in
    rw c.as_slice-2.ensures (omega (arith, below, c.requires.sound.size))

pub open-requires-clause-next : goal.open-requires-clause-next
open-requires-clause-next c =
    below_next c.args.next.now c.args.self.now c.requires.last.0 c.args.knot c.as_slice.result.now c.len.result c.requires.sound c.requires.last.1 c.requires.some c.requires.net c.as_slice.ensures c.len.ensures

pub open-requires-clause-visits : goal.open-requires-clause-visits
open-requires-clause-visits c = omega (arith, open-requires-clause-next c, c.requires.sound.size)

pub returns-in_ok-open-in-New-clause-sound : goal.returns-in_ok-open-in-New-clause-sound
returns-in_ok-open-in-New-clause-sound c =
    let walk = c.args.self.now in
    let to : ℕ = get_or c.as_slice.result.now (c.len.result - 1) 0 in
    let same : to ≡ get_or walk.pending (length walk.pending - 1) 0 = last_of c.as_slice.result.now walk.pending c.len.result c.as_slice.ensures c.len.ensures in
    let new : visit_of walk.visits to ≡ New = rw c.as_slice-2.ensures at c.in-New.is in
    let below = below_next c.args.next.now walk c.requires.last.0 c.args.knot c.as_slice.result.now c.len.result c.requires.sound c.requires.last.1 c.requires.some c.requires.net c.as_slice.ensures c.len.ensures in
    rw c.in_ok-open-in-New.ensures (opened_sound c.args.next.now walk to c.requires.sound (omega (arith, below, c.requires.sound.size)) new
    (λ i within. subst (λ v. Leads (StepsTo c.args.next.now) (get_or walk.path i 0) v) (sym same)
    (all_lead c.args.next.now walk c.requires.last.0 c.args.knot (length walk.pending - 1) c.requires.sound c.requires.last.1 (omega (arith, c.requires.some)) (omega (arith, c.requires.some)) i within)))

pub returns-in_ok-open-in-New-clause-nearer : goal.returns-in_ok-open-in-New-clause-nearer
returns-in_ok-open-in-New-clause-nearer c =
    let walk = c.args.self.now in
    let to : ℕ = get_or c.as_slice.result.now (c.len.result - 1) 0 in
    let new : visit_of walk.visits to ≡ New = rw c.as_slice-2.ensures at c.in-New.is in
    let below : to < length walk.visits = omega (arith, c.requires.sound.size, below_next c.args.next.now walk c.requires.last.0 c.args.knot c.as_slice.result.now c.len.result c.requires.sound c.requires.last.1 c.requires.some c.requires.net c.as_slice.ensures c.len.ensures) in
    rw c.in_ok-open-in-New.ensures (opened_less c.args.next.now walk to c.requires.sound below new)

pub returns-in-Open-clause-sound : goal.returns-in-Open-clause-sound
returns-in-Open-clause-sound c =
    let walk = c.args.self.now in
    let v : ℕ = get_or walk.pending (length walk.pending - 1) 0 in
    let earlier : List ℕ = take (length walk.pending - 1) walk.pending in
    let long : length earlier ≡ length walk.pending - 1 = length-take-le (length walk.pending - 1) walk.pending (omega arith) in
    let opens : visit_of walk.visits v ≡ Open c.in-Open.at =
    rw (last_of c.as_slice.result.now walk.pending c.len.result c.as_slice.ensures c.len.ensures) at (rw c.as_slice-2.ensures at c.in-Open.is) in
    rw (popped_rest walk.knots c.pop.new.self c.requires.last.0 c.pop.result c.args.knot c.pop.ensures c.requires.last.1)
    (joined_sound c.args.next.now walk c.requires.last.0 c.args.knot earlier v c.in-Open.at c.requires.sound c.requires.last.1
    (last_apart walk.pending 0 (omega (arith, c.requires.some))) (omega (arith, long, c.requires.some)) opens c.if-at-knot.true)

pub returns-in_default-clause-sound : goal.returns-in_default-clause-sound
returns-in_default-clause-sound c =
    let walk = c.args.self.now in
    let v : ℕ = get_or walk.pending (length walk.pending - 1) 0 in
    let earlier : List ℕ = take (length walk.pending - 1) walk.pending in
    let long : length earlier ≡ length walk.pending - 1 = length-take-le (length walk.pending - 1) walk.pending (omega arith) in
    let last : walk.pending ≡ earlier ++ v ∷ [] = last_apart walk.pending 0 (omega (arith, c.requires.some)) in
    let known : IsDone walk.visits v ⊎ IsOpenFrom walk.visits c.args.knot.first v = elim c.in_default.branch [
      | in_default-via-in-Open+else-at-knot w ↦ inr (
        w.in-Open.at,
        w.if-at-knot.false,
        rw (last_of c.as_slice.result.now walk.pending c.len.result c.as_slice.ensures c.len.ensures) at (rw c.as_slice-2.ensures at w.in-Open.is),
      )
      | in_default-via-in_default w ↦ inl (
        w.in_default.field-0,
        rw (last_of c.as_slice.result.now walk.pending c.len.result c.as_slice.ensures c.len.ensures) at (rw c.as_slice-2.ensures at w.in_default.is),
      )
    ] in
    rw (popped_rest walk.pending c.pop-in_default.new.self earlier c.pop-in_default.result v c.pop-in_default.ensures last)
    (followed_sound c.args.next.now walk c.requires.last.0 c.args.knot earlier v 0 c.requires.sound c.requires.last.1 last (omega (arith, long, c.requires.some)) known)

pub returns-in_ok-open-in-New-clause-grows : goal.returns-in_ok-open-in-New-clause-grows
returns-in_ok-open-in-New-clause-grows c =
    let walk = c.args.self.now in
    let to : ℕ = get_or c.as_slice.result.now (c.len.result - 1) 0 in
    let same : to ≡ get_or walk.pending (length walk.pending - 1) 0 = last_of c.as_slice.result.now walk.pending c.len.result c.as_slice.ensures c.len.ensures in
    let seen = pending_seen c.args.next.now walk c.requires.last.0 c.args.knot (length walk.pending - 1) c.requires.sound c.requires.last.1 (omega (arith, c.requires.some)) (omega (arith, c.requires.some)) in
    rw c.in_ok-open-in-New.ensures (opened_grows c.args.next.now walk.visits to seen.0 (length walk.path) seen.1 (subst (StepsTo c.args.next.now seen.0) (sym same) seen.2))
