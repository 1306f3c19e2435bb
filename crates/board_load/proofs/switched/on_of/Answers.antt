use Rattle.std.proofs.Common.{◌≡◌, ◌≤◌, ◌<◌, ◌+◌, List, length, get_or, sym, ap, ◌∙◌, subst, arith, take_all}
use Rattle.std.specs.List.{list_any, enumerate_from}
use Rattle.std.proofs.lemmas.List.FromFn.{length-enumerate_from}
use Rattle.board.specs.declared.rail.Rail.{Rail}
use Rattle.board.proofs.BoardGraph.{sound_graph}
use Rattle.board_load.proofs.MarkLemmas.{IsOnBy, on_more, on_same}
use Rattle.board_load.proofs.StartsOn.{brings_on}
use Rattle.board_load.proofs.switched.on_of.Goals as goal
use Rattle.board_load.proofs.switched.on_of.Goals.{then-is_asked_on+in_ok-mark_up, else-is_asked_on}

pub mark_up-requires-clause-graph : goal.mark_up-requires-clause-graph
mark_up-requires-clause-graph c = sound_graph c.args.board.now c.requires.sound

pub loop-r-preserved : goal.loop-r-preserved
loop-r-preserved c =
    let board = c.args.board.now in
    let regs = c.args.regs.now in
    let k = c.loop-r.r in
    let rail = c.rail-item.result in
    let within : k < length board.rails = subst (λ (xs : List Rail). k < length xs) c.as_slice-rail-items.ensures c.loop-r-test.true in
    let item : rail ≡ get_or board.rails k rail = subst (λ (xs : List Rail). rail ≡ get_or xs k rail) c.as_slice-rail-items.ensures c.rail-item.is in
    elim c.if-is_asked_on.branch [
      | then-is_asked_on+in_ok-mark_up w ↦ record {
        size = ap length w.on-is ∙ w.in_ok-mark_up.ensures.size ∙ c.loop-r.invariant.size;
        on = subst (IsOnBy board regs (k + 1)) (sym w.on-is)
            (on_more board regs k rail c.loop-r.on _ within item (sym c.is_asked_on.ensures ∙ w.if-is_asked_on.true) c.loop-r.invariant.on w.in_ok-mark_up.ensures.marks);
      }
      | else-is_asked_on w ↦ record {
        size = ap length w.on-is ∙ c.loop-r.invariant.size;
        on = subst (IsOnBy board regs (k + 1)) (sym w.on-is)
            (on_same board regs k rail c.loop-r.on within item (sym c.is_asked_on.ensures ∙ w.if-is_asked_on.false) c.loop-r.invariant.on);
      }
    ]

pub returns-clause-on : goal.returns-clause-on
returns-clause-on c = λ r.
    let rails = c.args.board.now.rails in
    let count : length (enumerate_from 0 rails) ≡ length rails = length-enumerate_from 0 rails in
    let read : length c.as_slice-rail-items.result.now ≡ length rails = ap length c.as_slice-rail-items.ensures in
    let past : length (enumerate_from 0 rails) ≤ c.loop-r.r = omega (arith, count, read, c.loop-r-test.false) in
    c.loop-r.invariant.on r ∙ ap (list_any (brings_on c.args.board.now c.args.regs.now r)) (take_all c.loop-r.r (enumerate_from 0 rails) past)
