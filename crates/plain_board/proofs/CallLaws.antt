-- The laws of the calls that sessions make, on boards on which no rail's value binds another's.
use Rattle.std.proofs.Common.{◌≡◌, ℕ, ◌<◌, Bool, true, false, cond, List, [], Option, Some, None, inl, inr, refl, sym, ap, ◌∙◌, subst, arith, length, take}
use Rattle.std.specs.Prelude.{IfSome}
use Rattle.std.proofs.lemmas.Bool.{cases_lt}
use Rattle.std.proofs.lemmas.List.{take_all}
use Rattle.arrayvec.specs.ArrayString.{ArrayString}
use Rattle.board.specs.declared.board.Board.{Board}
use Rattle.board.specs.declared.rail.Rail.{Rail}
use Rattle.board.specs.declared.rail_id.RailId.{RailId}
use Rattle.board.specs.Rail.{allowed, uv}
use Rattle.board.specs.Valid.{IsValid}
use Rattle.rail_law.specs.Law.{Law}
use Rattle.rail_law.specs.Moves.{Move, after_moves}
use Rattle.rows.specs.declared.answer.Answer.{Answer}
use Rattle.rows.specs.declared.call.Call.{Call}
use Rattle.rows.specs.declared.call.Call.TheVariants.{Open, Set, Get}
use Rattle.rows.specs.Row.{NamesRail}
use Rattle.plain_board.specs.declared.plain.Plain.{Plain}
use Rattle.plain_board.specs.Handles.{open_of, on_rail, for_open}
use Rattle.plain_board.specs.Plan.{moves_of_call}
use Rattle.plain_board.specs.Refusals.{refusal}
use Rattle.plain_board.specs.Moved.{after_first}
use Rattle.plain_board.specs.Requests.{meets}
use Rattle.plain_board.specs.Answer.{with_changed, with_request, kept_request, done, stopped, settled, planned, plan, answered, answer}
use Rattle.plain_board.specs.History.{IsWithinPlan}
use Rattle.plain_board.specs.Law.{Throughout}
use Rattle.plain_board.specs.Inv.{Inv}
use Rattle.plain_board.specs.Untied.{IsUntied, IsBuiltCall, HoldFields}
use Rattle.plain_board.proofs.Throughout.{Throughout-weaker}
use Rattle.plain_board.proofs.Grown.{HasGrown, after_first-grown}
use Rattle.plain_board.proofs.KeptOpen.{inv_open}
use Rattle.plain_board.proofs.KeptSet.{inv_set}
use Rattle.plain_board.proofs.MovedAlone.{IsMovedAlone, still_lawful}
use Rattle.plain_board.proofs.RailMoves.{moves_to, StandsBetween, moves_between, moves_end, stop_between}
use Rattle.plain_board.proofs.SetMoves.{IsSetTo, set_not_refused}
use Rattle.plain_board.proofs.ValuesTo.{values_to, IsBetween}

-- by whether a call is refused
pub planned_by : (board : Board) (plain : Plain) (worker : ℕ) (call : Call) (o : Option Answer) → refusal board plain worker call ≡ o → Law board plain.regs
    → (refusal board plain worker call ≡ None → Throughout (Law board) board plain.regs (moves_of_call board plain worker call))
    → Throughout (Law board) board plain.regs (planned board plain worker call o)
planned_by board plain worker call None is law moves = moves is
planned_by board plain worker call (Some why) is law moves = law

pub answered_by : (P : Plain → Type 0) (board : Board) (plain : Plain) (worker : ℕ) (call : Call) (stop : Option ℕ) (o : Option Answer) → refusal board plain worker call ≡ o → P plain
    → IsWithinPlan stop (planned board plain worker call o)
    → (refusal board plain worker call ≡ None → IsWithinPlan stop (moves_of_call board plain worker call) → P (settled board plain worker call (moves_of_call board plain worker call) stop).1)
    → P (answered board plain worker call stop o).1
answered_by P board plain worker call stop None is before within settles = settles is within
answered_by P board plain worker call stop (Some why) is before within settles = before

-- a kept request is met
kept_by : (v : ℕ) (request : ℕ × ℕ) (t : Bool) → meets v request ≡ t → IfSome (cond t (Some request) None) (λ asked. meets v asked ≡ true)
kept_by v request true is = is
kept_by v request false is = tt

kept_met : (v : ℕ) (request : Option (ℕ × ℕ)) → IfSome (kept_request v request) (λ asked. meets v asked ≡ true)
kept_met v None = tt
kept_met v (Some request) = kept_by v request (meets v request) refl

module _ (board : Board) (valid : IsValid board) (untied : IsUntied board) (plain : Plain) (hold : HoldFields board plain.regs) (inv : Inv board plain) (worker : ℕ) where
  module _ (handle : ArrayString) (lo hi : ℕ) (set : IsSetTo board plain worker handle lo hi) where
    abbrev r : ℕ
    r = set.on.entry.0.0

    abbrev rail : Rail
    rail = set.on.rail

    abbrev set_moves : List Move
    set_moves = moves_of_call board plain worker (Set handle lo hi)

    lawful_between : (regs : List (List ℕ)) → StandsBetween board r rail plain.regs set.goal regs → Law board regs
    lawful_between regs stands = still_lawful board valid.sound r rail set.on.there plain.regs regs stands.at stands.moved untied stands.among inv.law

    set_lawful : Throughout (Law board) board plain.regs set_moves
    set_lawful =
        subst (Throughout (Law board) board plain.regs) (sym set.moves)
        (Throughout-weaker (StandsBetween board r rail plain.regs set.goal) (Law board) board plain.regs (moves_to board r (values_to (allowed rail) set.goal (uv rail plain.regs))) lawful_between
        (moves_between board valid.sound r rail set.on.there plain.regs inv.kept.regs hold set.goal set.among inv.law))

    -- it is done
    moved_to_goal : IsMovedAlone board r rail plain.regs set.goal (after_moves board plain.regs (take (length set_moves) set_moves))
    moved_to_goal =
        subst (IsMovedAlone board r rail plain.regs set.goal) (sym (ap (after_moves board plain.regs) (take_all (length set_moves) set_moves (omega arith) ∙ set.moves)))
        (moves_end board valid.sound r rail set.on.there plain.regs inv.kept.regs hold set.goal set.among inv.law)

    at_end : (u goal : ℕ) → IsBetween u goal goal
    at_end u goal = elim (cases_lt u goal) [ inl less ↦ inl (omega arith, omega arith) | inr most ↦ inr (omega arith, most) ]

    abbrev at_goal : StandsBetween board r rail plain.regs set.goal (after_moves board plain.regs (take (length set_moves) set_moves))
    at_goal = record { at = set.goal; among = set.among; between = at_end (uv rail plain.regs) set.goal; moved = moved_to_goal }

    set_done : Inv board (settled board plain worker (Set handle lo hi) set_moves None).1
    set_done =
        inv_set board valid.sound untied plain inv worker handle lo hi set (after_first board plain (length set_moves) set_moves) _
        (after_first-grown board plain (length set_moves) set_moves) at_goal (Some (lo, hi)) set.own

    -- it is stopped
    module _ (made : ℕ) where
      abbrev now : Plain
      now = after_first board plain made set_moves

      stop_at : StandsBetween board r rail plain.regs set.goal (after_moves board plain.regs (take made set_moves))
      stop_at =
          subst (λ moves. StandsBetween board r rail plain.regs set.goal (after_moves board plain.regs (take made moves))) (sym set.moves)
          (stop_between board valid.sound r rail set.on.there plain.regs inv.kept.regs hold set.goal set.among inv.law made)

      abbrev kept : Option (ℕ × ℕ)
      kept = kept_request (uv rail now.regs) set.on.entry.1.request

      grown : HasGrown plain now (after_moves board plain.regs (take made set_moves)) plain.handles
      grown = after_first-grown board plain made set_moves

      kept_is_met : IfSome kept (λ request. meets stop_at.at request ≡ true)
      kept_is_met =
          let here : uv rail now.regs ≡ stop_at.at = ap (uv rail) grown.regs_are ∙ stop_at.moved.value in
          subst (λ v. IfSome kept (λ request. meets v request ≡ true)) here (kept_met (uv rail now.regs) set.on.entry.1.request)

      stopped_is : stopped board now worker (Set handle lo hi) ≡ with_changed now worker handle (with_request kept)
      stopped_is =
          ap (λ handles. for_open now (λ id a row. with_changed now worker handle (with_request (kept_request (uv a now.regs) row.request))) board (open_of handles worker handle.bytes)) grown.handles_are
          ∙ ap (for_open now (λ id a row. with_changed now worker handle (with_request (kept_request (uv a now.regs) row.request))) board) set.on.is_open
          ∙ ap (on_rail now (λ id a row. with_changed now worker handle (with_request (kept_request (uv a now.regs) row.request))) set.on.entry) set.on.there

      set_stopped : Inv board (settled board plain worker (Set handle lo hi) set_moves (Some made)).1
      set_stopped =
          subst (Inv board) (sym stopped_is)
          (inv_set board valid.sound untied plain inv worker handle lo hi set now (after_moves board plain.regs (take made set_moves)) grown stop_at kept kept_is_met)

    -- the registers are whole after that too
    fields_after : (regs : List (List ℕ)) → StandsBetween board r rail plain.regs set.goal regs → HoldFields board regs
    fields_after regs stands = record { image = stands.moved.image; places = hold.places }

    fields_settled : (stop : Option ℕ) → HoldFields board (settled board plain worker (Set handle lo hi) set_moves stop).1.regs
    fields_settled None =
        subst (HoldFields board) (sym (after_first-grown board plain (length set_moves) set_moves).regs_are) (fields_after _ at_goal)
    fields_settled (Some made) =
        subst (HoldFields board) (sym (ap (λ (new : Plain). new.regs) (stopped_is made) ∙ (grown made).regs_are)) (fields_after _ (stop_at made))

    set_settled : (stop : Option ℕ) → Inv board (settled board plain worker (Set handle lo hi) set_moves stop).1
    set_settled None = set_done
    set_settled (Some made) = set_stopped made

  -- no stop is within no moves, so where a call makes none it is done
  fields_done : (call : Call) (stop : Option ℕ) → (done board plain worker call).regs ≡ plain.regs → IsWithinPlan stop [] → HoldFields board (settled board plain worker call [] stop).1.regs
  fields_done call None same within = subst (HoldFields board) (sym same) hold
  fields_done call (Some made) same within = absurd (omega (arith, within))

  open_settled : (handle : ArrayString) (rail : RailId) (exclusive : Bool) (stop : Option ℕ) → rail.0 < length board.rails → refusal board plain worker (Open handle rail exclusive) ≡ None
      → IsWithinPlan stop [] → Inv board (settled board plain worker (Open handle rail exclusive) [] stop).1
  open_settled handle rail exclusive None there free within = inv_open board plain inv worker handle rail exclusive there free
  open_settled handle rail exclusive (Some made) there free within = absurd (omega (arith, within))

  get_settled : (handle : ArrayString) (stop : Option ℕ) → IsWithinPlan stop [] → Inv board (settled board plain worker (Get handle) [] stop).1
  get_settled handle None within = inv
  get_settled handle (Some made) within = absurd (omega (arith, within))

-- the law holds before such a call, and after each of its moves
pub law_after_each_move_lem : (board : Board) (plain : Plain) (worker : ℕ) (call : Call) → IsValid board → IsUntied board → HoldFields board plain.regs → Inv board plain → IsBuiltCall call
    → Throughout (Law board) board plain.regs (plan board plain worker call)
law_after_each_move_lem board plain worker (Open handle rail exclusive) valid untied hold inv built =
    planned_by board plain worker (Open handle rail exclusive) _ refl inv.law (λ free. inv.law)
law_after_each_move_lem board plain worker (Set handle lo hi) valid untied hold inv built =
    planned_by board plain worker (Set handle lo hi) _ refl inv.law
    (λ free. set_lawful board valid untied plain hold inv worker handle lo hi (set_not_refused board valid.sound untied plain worker handle lo hi free))
law_after_each_move_lem board plain worker (Get handle) valid untied hold inv built =
    planned_by board plain worker (Get handle) _ refl inv.law (λ free. inv.law)
law_after_each_move_lem board plain worker call valid untied hold inv built = absurd built

-- such a call keeps what holds of the plain board
pub calls_keep_inv_lem : (board : Board) (plain : Plain) (worker : ℕ) (call : Call) (stop : Option ℕ) → IsValid board → IsUntied board → HoldFields board plain.regs → Inv board plain
    → NamesRail board call → IsBuiltCall call → IsWithinPlan stop (plan board plain worker call) → Inv board (answer board plain worker call stop).1
calls_keep_inv_lem board plain worker (Open handle rail exclusive) stop valid untied hold inv names built within =
    answered_by (Inv board) board plain worker (Open handle rail exclusive) stop _ refl inv within
    (λ free. open_settled board valid untied plain hold inv worker handle rail exclusive stop names free)
calls_keep_inv_lem board plain worker (Set handle lo hi) stop valid untied hold inv names built within =
    answered_by (Inv board) board plain worker (Set handle lo hi) stop _ refl inv within
    (λ free _. set_settled board valid untied plain hold inv worker handle lo hi (set_not_refused board valid.sound untied plain worker handle lo hi free) stop)
calls_keep_inv_lem board plain worker (Get handle) stop valid untied hold inv names built within =
    answered_by (Inv board) board plain worker (Get handle) stop _ refl inv within (λ free. get_settled board valid untied plain hold inv worker handle stop)
calls_keep_inv_lem board plain worker call stop valid untied hold inv names built within = absurd built

-- and the registers are still whole
pub calls_keep_fields_lem : (board : Board) (plain : Plain) (worker : ℕ) (call : Call) (stop : Option ℕ) → IsValid board → IsUntied board → HoldFields board plain.regs → Inv board plain
    → IsBuiltCall call → IsWithinPlan stop (plan board plain worker call) → HoldFields board (answer board plain worker call stop).1.regs
calls_keep_fields_lem board plain worker (Open handle rail exclusive) stop valid untied hold inv built within =
    answered_by (λ new. HoldFields board new.regs) board plain worker (Open handle rail exclusive) stop _ refl hold within
    (λ free. fields_done board valid untied plain hold inv worker (Open handle rail exclusive) stop refl)
calls_keep_fields_lem board plain worker (Set handle lo hi) stop valid untied hold inv built within =
    answered_by (λ new. HoldFields board new.regs) board plain worker (Set handle lo hi) stop _ refl hold within
    (λ free _. fields_settled board valid untied plain hold inv worker handle lo hi (set_not_refused board valid.sound untied plain worker handle lo hi free) stop)
calls_keep_fields_lem board plain worker (Get handle) stop valid untied hold inv built within =
    answered_by (λ new. HoldFields board new.regs) board plain worker (Get handle) stop _ refl hold within
    (λ free. fields_done board valid untied plain hold inv worker (Get handle) stop refl)
calls_keep_fields_lem board plain worker call stop valid untied hold inv built within = absurd built
