-- A call that is performed, from how it is answered.
use Rattle.std.proofs.Common.{◌≡◌, ℕ, false, List, [], Option, Some, None, refl, sym, ap, subst, ◌∙◌, map}
use Rattle.reg_outside.specs.Told.{with_more}
use Rattle.reg_outside.proofs.ToldFacts.{with_more-nil}
use Rattle.board.specs.declared.board.Board.{Board}
use Rattle.board.specs.Valid.{IsValid}
use Rattle.rail_law.specs.Law.{Law}
use Rattle.rail_law.specs.Moves.{Move, writes_of}
use Rattle.rows.specs.declared.answer.Answer.{Answer}
use Rattle.rows.specs.declared.answer.Answer.TheVariants.{Fault}
use Rattle.rows.specs.declared.call.Call.{Call}
use Rattle.rows.specs.Row.{HasRails, NamesRail}
use Rattle.plain_board.specs.declared.plain.Plain.{Plain}
use Rattle.plain_board.specs.Plan.{moves_of_call}
use Rattle.plain_board.specs.Refusals.{refusal}
use Rattle.plain_board.specs.Answer.{answer, answered, plan, planned, settled}
use Rattle.plain_board.specs.History.{stop_of, IsWithinPlan, made_of, is_fault}
use Rattle.plain_board.specs.Inv.{Inv}
use Rattle.plain_board.specs.Law.{Throughout}
use Rattle.plain_board.specs.Untied.{IsUntied, IsBuiltCall, HoldFields}
use Rattle.plain_board.proofs.CallLaws.{law_after_each_move_lem, calls_keep_inv_lem}
use Rattle.plain_board.proofs.Throughout.{Throughout-take}
use Rattle.regulator_main.specs.Desk.{Counts, Took, Performs, tries_for}
use Rattle.reg_outside.specs.Bus.{Updates}
use Rattle.plain_board.specs.Update.{update_of}
use Rattle.reg_outside.specs.Plan.{Plan}
use Rattle.regulator_main.specs.Walk.{Tried}
use Rattle.regulator_main.proofs.Tries.{tried_still}

-- an answer that is no fault tells no stop and no rail
calm_stop : (said : Answer) → is_fault said ≡ false → stop_of said ≡ None
calm_stop (Fault chip reg applied now) calm = absurd cc
calm_stop said calm = refl

calm_rails : (board : Board) (said : Answer) → is_fault said ≡ false → HasRails board said
calm_rails board (Fault chip reg applied now) calm = absurd cc
calm_rails board said calm = tt

-- no moves were made, and no fault was counted
took_none : (board : Board) (said : Answer) (moves : List Move) (told : Option Updates) (count : ℕ) → is_fault said ≡ false → moves ≡ [] → Took board moves said told told count count
took_none board said moves told count calm none = record {
  within = subst (λ stop. IsWithinPlan stop moves) (sym (calm_stop said calm)) tt;
  rails = calm_rails board said calm;
  updates = sym (with_more-nil told) ∙ ap (λ ms. with_more told (map update_of (writes_of board ms))) (sym (ap (λ stop. made_of stop moves) (calm_stop said calm) ∙ none));
  faults = subst (λ fault. Counts fault count count) (sym calm) refl;
}

-- no update was tried
pub tried_calm : (said : Answer) (moves : List Move) (plan : Option Plan) → is_fault said ≡ false → moves ≡ [] → Tried (tries_for moves said) plan plan
tried_calm (Fault chip reg applied now) moves plan calm none = absurd cc
tried_calm said moves plan calm none = tried_still moves plan none

still_by : (board : Board) (plain : Plain) (worker : ℕ) (call : Call) (o : Option Answer) → moves_of_call board plain worker call ≡ [] → planned board plain worker call o ≡ []
still_by board plain worker call None none = none
still_by board plain worker call (Some refused) none = refl

-- a call without moves plans none
pub plan-still : (board : Board) (plain : Plain) (worker : ℕ) (call : Call) → moves_of_call board plain worker call ≡ [] → plan board plain worker call ≡ []
plan-still board plain worker call none = still_by board plain worker call (refusal board plain worker call) none

-- nor on a call that is refused
pub tried-refused : (board : Board) (plain : Plain) (worker : ℕ) (call : Call) (said : Answer) (plan' : Option Plan) → refusal board plain worker call ≡ Some said → is_fault said ≡ false
    → Tried (tries_for (plan board plain worker call) said) plan' plan'
tried-refused board plain worker call said plan' refused calm = tried_calm said (plan board plain worker call) plan' calm (ap (planned board plain worker call) refused)

module _ (board : Board) (plain plain' : Plain) (worker : ℕ) (call : Call) (said : Answer) (told told' : Option Updates) (count count' : ℕ) where
  -- a call is refused
  pub performs-refused : refusal board plain worker call ≡ Some said → is_fault said ≡ false → Performs board plain plain worker call said told told count count
  performs-refused refused calm = record {
    answered = ap (answered board plain worker call (stop_of said)) refused;
    took = took_none board said (plan board plain worker call) told count calm (ap (planned board plain worker call) refused);
  }

  -- a call makes no moves
  pub performs-still : answer board plain worker call None ≡ (said, plain') → is_fault said ≡ false → moves_of_call board plain worker call ≡ [] → Performs board plain plain' worker call said told told count count
  performs-still is calm none = record {
    answered = ap (answer board plain worker call) (calm_stop said calm) ∙ is;
    took = took_none board said (plan board plain worker call) told count calm (plan-still board plain worker call none);
  }

  -- a call makes these moves
  pub performs-moves : (moves : List Move) → refusal board plain worker call ≡ None → moves_of_call board plain worker call ≡ moves → settled board plain worker call moves (stop_of said) ≡ (said, plain')
      → Took board moves said told told' count count' → Performs board plain plain' worker call said told told' count count'
  performs-moves moves accepted is settles took = record {
    answered = ap (answered board plain worker call (stop_of said)) accepted ∙ ap (λ ms. settled board plain worker call ms (stop_of said)) is ∙ settles;
    took = subst (λ ms. Took board ms said told told' count count') (sym (ap (planned board plain worker call) accepted ∙ is)) took;
  }

module _ (board : Board) (valid : IsValid board) (untied : IsUntied board) (plain plain' : Plain) (fields : HoldFields board plain.regs) (inv : Inv board plain) (worker : ℕ) (call : Call) (built : IsBuiltCall call) (said : Answer) (told told' : Option Updates) (count count' : ℕ) (performs : Performs board plain plain' worker call said told told' count count') where
  -- what holds of a plain board still holds
  pub performed-inv : NamesRail board call → Inv board plain'
  performed-inv names =
      subst (Inv board) (ap (λ (p : Answer × Plain). p.1) performs.answered) (calls_keep_inv_lem board plain worker call (stop_of said) valid untied fields inv names built performs.took.within)

  made_lawful : (stop : Option ℕ) → Throughout (Law board) board plain.regs (made_of stop (plan board plain worker call))
  made_lawful None = law_after_each_move_lem board plain worker call valid untied fields inv built
  made_lawful (Some made) = Throughout-take (Law board) board plain.regs (plan board plain worker call) made (law_after_each_move_lem board plain worker call valid untied fields inv built)

  -- the law held all the time
  pub performed-lawful : Throughout (Law board) board plain.regs (made_of (stop_of said) (plan board plain worker call))
  performed-lawful = made_lawful (stop_of said)
