-- Calls that make no move, from how they are answered.
use Rattle.std.proofs.Common.{arith, ◌≡◌, ℕ, Bool, true, false, List, [], Option, Some, None, refl, sym, ap, subst, ◌∙◌}
use Rattle.std.specs.Prelude.{Contains, if◌then◌else◌}
use Rattle.reg_outside.specs.Bus.{Bus}
use Rattle.reg_outside.proofs.ToldFacts.{with_more-nil}
use Rattle.board.specs.declared.board.Board.{Board}
use Rattle.board.specs.Fields.{field_at}
use Rattle.rail_law.specs.Moves.{writes_of}
use Rattle.rail_state.specs.Sight.{IsGuarded}
use Rattle.rows.specs.declared.answer.Answer.{Answer}
use Rattle.rows.specs.declared.answer.Answer.TheVariants.{Fault}
use Rattle.rows.specs.declared.call.Call.{Call}
use Rattle.plain_board.specs.declared.plain.Plain.{Plain}
use Rattle.plain_board.specs.Answer.{answer, answered, plan, planned, stopped}
use Rattle.plain_board.specs.History.{stop_of, IsWithinPlan, made_of, is_fault}
use Rattle.plain_board.specs.Inv.{Inv}
use Rattle.plain_board.specs.Plan.{moves_of_call}
use Rattle.plain_board.specs.Refusals.{refusal}
use Rattle.plain_board.specs.Seen.{book}
use Rattle.plain_board.specs.Untied.{HoldFields}
use Rattle.rail_ops.specs.Exact.{IsExact, IsLeft}
use Rattle.rail_ops.specs.Sight.{Hands, Place, placed, ShowsSame, Shows, MayBe}
use Rattle.rail_ops.specs.Taking.{Tells, updates_of}
use Rattle.rail_ops.proofs.Tries.{tried_none}

-- an answer that is no fault tells no stop
calm_stop : (said : Answer) → is_fault said ≡ false → stop_of said ≡ None
calm_stop (Fault chip reg applied now) calm = absurd (cc)
calm_stop said calm = refl

still_by : (board : Board) (plain : Plain) (worker : ℕ) (call : Call) (o : Option Answer) → moves_of_call board plain worker call ≡ [] → planned board plain worker call o ≡ []
still_by board plain worker call None none = none
still_by board plain worker call (Some refused) none = refl

-- nothing was told
pub tells_nothing : (bus : Bus) → Tells [] false bus bus
tells_nothing bus = record { taken = sym (with_more-nil bus.taken); faults = refl; tried = tried_none bus.plan }

none_kept : (board : Board) (keep : Bool) → [] ≡ (if keep then writes_of board [] else [])
none_kept board true = refl
none_kept board false = refl

-- a call that plans no move is exact where it is answered so, and the worker sees the plain board after it
module _ (before after : Place) (call : Call) (bus : Bus) (keep : Bool) (said : Answer) (calm : is_fault said ≡ false) (plain : Plain) (plans_none : plan before.hands.board plain before.worker call ≡ []) where
  made_none : made_of (stop_of said) (plan before.hands.board plain before.worker call) ≡ []
  made_none = ap (λ stop. made_of stop (plan before.hands.board plain before.worker call)) (calm_stop said calm) ∙ plans_none

  pub exact_quiet : (answer before.hands.board plain before.worker call None).0 ≡ said → MayBe after (answer before.hands.board plain before.worker call None).1 → IsExact call before after bus bus keep said [] plain
  exact_quiet is leaves = record {
    answered = ap (λ stop. (answer before.hands.board plain before.worker call stop).0) (calm_stop said calm) ∙ is;
    leaves = subst (λ stop. MayBe after (answer before.hands.board plain before.worker call stop).1) (sym (calm_stop said calm)) leaves;
    took = record {
      within = subst (λ stop. IsWithinPlan stop (plan before.hands.board plain before.worker call)) (sym (calm_stop said calm)) tt;
      tells = subst (λ moves. Tells (updates_of before.hands.board moves) (is_fault said) bus bus) (sym made_none)
          (subst (λ stopped. Tells [] stopped bus bus) (sym calm) (tells_nothing bus));
    };
    kept = none_kept before.hands.board keep ∙ ap (λ moves. if keep then writes_of before.hands.board moves else []) (sym made_none);
  }

-- so is one whose kind makes no move
pub exact_still : (before after : Place) (call : Call) (bus : Bus) (keep : Bool) (said : Answer) → is_fault said ≡ false → (plain : Plain) → moves_of_call before.hands.board plain before.worker call ≡ []
    → (answer before.hands.board plain before.worker call None).0 ≡ said → MayBe after (answer before.hands.board plain before.worker call None).1 → IsExact call before after bus bus keep said [] plain
exact_still before after call bus keep said calm plain none =
    exact_quiet before after call bus keep said calm plain (still_by before.hands.board plain before.worker call (refusal before.hands.board plain before.worker call) none)

-- and one that is refused
pub exact_refused : (before : Place) (call : Call) (bus : Bus) (keep : Bool) (said : Answer) → is_fault said ≡ false → (plain : Plain) → MayBe before plain → refusal before.hands.board plain before.worker call ≡ Some said
    → (after : Place) → MayBe after plain → IsExact call before after bus bus keep said [] plain
exact_refused before call bus keep said calm plain may_be refused after leaves =
    let both : answer before.hands.board plain before.worker call None ≡ (said, plain) = ap (answered before.hands.board plain before.worker call None) refused in
    exact_quiet before after call bus keep said calm plain (ap (planned before.hands.board plain before.worker call) refused)
    (ap (λ (p : Answer × Plain). p.0) both) (subst (MayBe after) (sym (ap (λ (p : Answer × Plain). p.1) both)) leaves)

-- rails that show the same show the same plain boards
pub shows_same : (before after : Hands) (plain : Plain) → ShowsSame before after → Shows before plain → Shows after plain
shows_same before after plain same shows = record {
  fields = λ j part field guarded is.
      shows.fields j part field
      (subst (λ (b : Board). IsGuarded b before.rails j) same.board (subst (λ (rs : List ℕ). IsGuarded after.board rs j) same.rails guarded))
      (ap (λ (b : Board). field_at b j part) (sym same.board) ∙ is)
      ∙ sym (same.bits j part);
  books = λ i held.
      same.books i ∙ shows.books i (subst (λ (rs : List ℕ). Contains rs i) same.rails held) ∙ ap (λ (b : Board). book b plain i) (sym same.board);
}

pub may_be_same : (before after : Hands) (names : List (List ℕ × ℕ)) (worker : ℕ) (plain : Plain) → ShowsSame before after → MayBe (placed before names worker) plain → MayBe (placed after names worker) plain
may_be_same before after names worker plain same may_be = record {
  inv = subst (λ (b : Board). Inv b plain) (sym same.board) may_be.inv;
  hold = subst (λ (b : Board). HoldFields b plain.regs) (sym same.board) may_be.hold;
  shows = shows_same before after plain same may_be.shows;
  knows = may_be.knows;
}

-- the memory was out before a call did anything
pub left_still : (before after : Hands) (names names' : List (List ℕ × ℕ)) (worker : ℕ) (call : Call) (bus : Bus) (plain : Plain) → MayBe (placed before names worker) plain → stopped before.board plain worker call ≡ plain
    → ShowsSame before after → names' ≡ names → IsLeft call (placed before names worker) (placed after names' worker) bus bus plain
left_still before after names names' worker call bus plain may_be same shows kept = record {
  made = 0;
  within = omega arith;
  shows = subst (Shows after) (sym same) (shows_same before after plain shows may_be.shows);
  names = kept;
  tells = tells_nothing bus;
}
