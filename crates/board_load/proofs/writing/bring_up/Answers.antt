use Rattle.std.proofs.Common.{◌≡◌, ◌+◌, ◌<◌, ◌++◌, ◌∷◌, [], List, get_or, length, take, Some, slice_get, sym, subst, arith}
use Rattle.std.proofs.lemmas.Bool.{false≢true}
use Rattle.std.proofs.lemmas.List.{take_more, length-take-le}
use Rattle.std.proofs.lemmas.Option.{slice_get-get_or}
use Rattle.board.specs.declared.write.Write.{Write}
use Rattle.reg_outside.specs.Bus.{told_by}
use Rattle.board_load.specs.BringUp.{TookAll}
use Rattle.board_load.proofs.TakenWrites.{took_none, took_more, stopped_at}
use Rattle.board_load.proofs.writing.bring_up.Goals as goal

-- a write where there is none
abbrev blank : Write
blank = record { chip = 0; reg = 0; mask = 0; bits = 0 }

pub loop-write-init : goal.loop-write-init
loop-write-init g c = took_none (told_by g.W.Wire.accepted g.W.Wire.plan g.W.Wire.faults c.args.wire.now)

pub loop-write-preserved : goal.loop-write-preserved
loop-write-preserved g c =
    let items = c.as_slice-write-items.result.now in
    let writes = c.args.loaded.now.writes in
    let i = c.loop-write.write-index in
    let before = told_by g.W.Wire.accepted g.W.Wire.plan g.W.Wire.faults c.args.wire.now in
    let middle = told_by g.W.Wire.accepted g.W.Wire.plan g.W.Wire.faults c.loop-write.wire in
    let after = told_by g.W.Wire.accepted g.W.Wire.plan g.W.Wire.faults c.update.new.self in
    let done = c.in-Ok.ensures in
    let taken : take (i + 1) writes ≡ take i writes ++ get_or items i blank ∷ [] =
    subst (λ (ws : List Write). take (i + 1) ws ≡ take i ws ++ get_or items i blank ∷ []) c.as_slice-write-items.ensures (take_more items i blank c.loop-write-test.true) in
    subst (TookAll before after) (sym taken)
    (took_more before middle after (take i writes) (get_or items i blank) c.loop-write.invariant done.accepted done.tried done.ok_counts_nothing done.planned_small
    (λ planned. false≢true (done.planned planned)))

pub returns-in_default-clause-stopped : goal.returns-in_default-clause-stopped
returns-in_default-clause-stopped g c =
    let items = c.as_slice-write-items.result.now in
    let writes = c.args.loaded.now.writes in
    let i = c.loop-write.write-index in
    let before = told_by g.W.Wire.accepted g.W.Wire.plan g.W.Wire.faults c.args.wire.now in
    let middle = told_by g.W.Wire.accepted g.W.Wire.plan g.W.Wire.faults c.loop-write.wire in
    let after = told_by g.W.Wire.accepted g.W.Wire.plan g.W.Wire.faults c.update.new.self in
    let stop = c.in_default.ensures in
    let same : items ≡ writes = c.as_slice-write-items.ensures in
    let inside : i < length writes = subst (λ (ws : List Write). i < length ws) same c.loop-write-test.true in
    let next = subst (λ (ws : List Write). slice_get ws i ≡ Some (get_or items i blank)) same (slice_get-get_or items i blank c.loop-write-test.true) in
    stopped_at before middle after writes i (get_or items i blank) c.loop-write.invariant (length-take-le i writes (omega (arith, inside))) next stop.refused stop.tried stop.refused_counts
