use Rattle.std.proofs.Common.{◌≡◌, ℕ, Bool, List, Result, Ok, Err, arith, subst, sym, inl, inr}
use Rattle.std.specs.declared.alloc.AllocError.{AllocError}
use Rattle.std.specs.Result.{IfOk}
use Rattle.std.proofs.lemmas.Bool.{cases_lt}
use Rattle.board_graph.specs.Inside.Walk.{IsDone, AreLoops}
use Rattle.board_graph.proofs.WalkEnds.{loops_are}
use Rattle.board_graph.proofs.walk.loops.Goals as goal

pub loop-root-preserved : goal.loop-root-preserved
loop-root-preserved c = record {
  rest = c.in_ok-visit.ensures.rest;
  done = λ v below. elim (cases_lt v c.loop-root.root) [
    | inl before ↦ c.in_ok-visit.ensures.goes.done v (c.loop-root.invariant.done v before)
    | inr last ↦ let here : c.loop-root.root ≡ v = omega arith in subst (IsDone c.visit.new.self.visits) here c.in_ok-visit.ensures.done
  ];
}

told : (next : List (List ℕ)) (loops : List Bool) (result : Result (List Bool) AllocError) → AreLoops next loops → IfOk result (λ all. all ≡ loops) → IfOk result (AreLoops next)
told next loops (Ok all) are same = subst (AreLoops next) (sym same) are
told next loops (Err e) are same = tt

pub returns : goal.returns
returns c =
    told c.args.next.now _ c.flags.result
    (loops_are c.args.next.now c.loop-root.walk c.loop-root.invariant.rest (λ v below. c.loop-root.invariant.done v (omega (arith, c.loop-root-test.false)))) c.flags.ensures
