use Rattle.std.proofs.Common.{◌≡◌, ℕ, Bool, List, Result, Ok, Err, length, ap, ◌∙◌, subst, sym}
use Rattle.std.specs.declared.alloc.AllocError.{AllocError}
use Rattle.std.specs.Result.{IfOk}
use Rattle.board_graph.specs.Inside.Walk.{visit_of, AreReached}
use Rattle.board_graph.proofs.WalkEnds.{reached_are, all_new}
use Rattle.board_graph.proofs.walk.reach.Goals as goal

told : (next : List (List ℕ)) (root : ℕ) (reached : List Bool) (result : Result (List Bool) AllocError) → AreReached next root reached → IfOk result (λ all. all ≡ reached) → IfOk result (AreReached next root)
told next root reached (Ok all) are same = subst (AreReached next root) (sym same) are
told next root reached (Err e) are same = tt

pub returns : goal.returns
returns c =
    told c.args.next.now c.args.root _ c.seen.result
    (reached_are c.args.next.now c.visit.new.self c.args.root c.in_ok-walk.walk.visits
    (λ v. ap (λ walk. visit_of walk.visits v) c.in_ok-walk.ensures ∙ all_new (length c.args.next.now) v)
    c.in_ok-visit.ensures.rest c.in_ok-visit.ensures.done c.in_ok-visit.ensures.from) c.seen.ensures
