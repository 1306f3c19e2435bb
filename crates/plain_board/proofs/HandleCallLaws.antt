-- The laws of the calls on handles, on boards on which no rail's value binds another's and loads choose no mode.
use Rattle.std.proofs.Common.{◌≡◌, ℕ, ◌⊎◌, inl, inr, [], Option, Some, None, refl}
use Rattle.arrayvec.specs.ArrayString.{ArrayString}
use Rattle.board.specs.declared.board.Board.{Board}
use Rattle.board.specs.Valid.{IsValid}
use Rattle.rail_law.specs.Law.{Law}
use Rattle.rows.specs.declared.call.Call.{Call}
use Rattle.rows.specs.declared.call.Call.TheVariants.{Open, Close, Enable, Disable, Set, Get, IsOn, ReleaseBoot}
use Rattle.rows.specs.Row.{NamesRail}
use Rattle.plain_board.specs.declared.plain.Plain.{Plain}
use Rattle.plain_board.specs.Answer.{settled, plan, answer}
use Rattle.plain_board.specs.History.{IsWithinPlan}
use Rattle.plain_board.specs.Inv.{Inv}
use Rattle.plain_board.specs.Law.{Throughout}
use Rattle.plain_board.specs.Refusals.{refusal}
use Rattle.plain_board.specs.Untied.{IsUntied, IsBuiltCall, IsHandleCall, HoldFields, CountsNoLoads}
use Rattle.plain_board.proofs.CallKeeps.{KeepsAll}
use Rattle.plain_board.proofs.CallLaws.{planned_by, answered_by, law_after_each_move_lem, calls_keep_inv_lem, calls_keep_fields_lem}
use Rattle.plain_board.proofs.KeptClose.{inv_close}
use Rattle.plain_board.proofs.KeptDisable.{disable_not_refused, disable_keeps}
use Rattle.plain_board.proofs.KeptEnable.{enable_not_refused, enable_keeps}
use Rattle.plain_board.proofs.KeptRelease.{release_keeps}

module _ (board : Board) (valid : IsValid board) (untied : IsUntied board) (no_loads : CountsNoLoads board) (plain : Plain) (hold : HoldFields board plain.regs) (inv : Inv board plain) (worker : ℕ) where
  module _ (handle : ArrayString) where
    close_settled : (stop : Option ℕ) → Inv board (settled board plain worker (Close handle) [] stop).1
    close_settled None = inv_close board valid.sound untied no_loads plain hold inv worker handle
    close_settled (Some made) = inv

    close_fields : (stop : Option ℕ) → HoldFields board (settled board plain worker (Close handle) [] stop).1.regs
    close_fields None = hold
    close_fields (Some made) = hold

    is_on_settled : (stop : Option ℕ) → Inv board (settled board plain worker (IsOn handle) [] stop).1
    is_on_settled None = inv
    is_on_settled (Some made) = inv

    is_on_fields : (stop : Option ℕ) → HoldFields board (settled board plain worker (IsOn handle) [] stop).1.regs
    is_on_fields None = hold
    is_on_fields (Some made) = hold

  -- a call is one of those that sessions make today, or keeps all where it isn't refused
  handle_call : (call : Call) → IsHandleCall call → IsBuiltCall call ⊎ (refusal board plain worker call ≡ None → KeepsAll board plain worker call)
  handle_call (Open handle rail exclusive) is = inl tt
  handle_call (Set handle lo hi) is = inl tt
  handle_call (Get handle) is = inl tt
  handle_call (Close handle) is = inr (λ free. record { law = inv.law; inv = close_settled handle; fields = close_fields handle })
  handle_call (IsOn handle) is = inr (λ free. record { law = inv.law; inv = is_on_settled handle; fields = is_on_fields handle })
  handle_call (Enable handle) is =
      inr (λ free. enable_keeps board valid untied no_loads plain hold inv worker handle (enable_not_refused board plain worker handle free))
  handle_call (Disable handle) is =
      inr (λ free. disable_keeps board valid untied no_loads plain hold inv worker handle (disable_not_refused board plain worker handle free))
  handle_call ReleaseBoot is = inr (λ free. release_keeps board valid untied no_loads plain hold inv worker)
  handle_call call is = absurd is

-- the law holds before such a call, and after each of its moves
pub law_after_each_handle_move_lem : (board : Board) (plain : Plain) (worker : ℕ) (call : Call) → IsValid board → IsUntied board → CountsNoLoads board → HoldFields board plain.regs → Inv board plain
    → IsHandleCall call → Throughout (Law board) board plain.regs (plan board plain worker call)
law_after_each_handle_move_lem board plain worker call valid untied no_loads hold inv is = elim (handle_call board valid untied no_loads plain hold inv worker call is) [
  | inl built ↦ law_after_each_move_lem board plain worker call valid untied hold inv built
  | inr keeps ↦ planned_by board plain worker call _ refl inv.law (λ free. (keeps free).law)
]

-- such a call keeps what holds of the plain board
pub handle_calls_keep_inv_lem : (board : Board) (plain : Plain) (worker : ℕ) (call : Call) (stop : Option ℕ) → IsValid board → IsUntied board → CountsNoLoads board → HoldFields board plain.regs
    → Inv board plain → NamesRail board call → IsHandleCall call → IsWithinPlan stop (plan board plain worker call) → Inv board (answer board plain worker call stop).1
handle_calls_keep_inv_lem board plain worker call stop valid untied no_loads hold inv names is within = elim (handle_call board valid untied no_loads plain hold inv worker call is) [
  | inl built ↦ calls_keep_inv_lem board plain worker call stop valid untied hold inv names built within
  | inr keeps ↦ answered_by (Inv board) board plain worker call stop _ refl inv within (λ free _. (keeps free).inv stop)
]

-- and the registers are still whole
pub handle_calls_keep_fields_lem : (board : Board) (plain : Plain) (worker : ℕ) (call : Call) (stop : Option ℕ) → IsValid board → IsUntied board → CountsNoLoads board → HoldFields board plain.regs
    → Inv board plain → IsHandleCall call → IsWithinPlan stop (plan board plain worker call) → HoldFields board (answer board plain worker call stop).1.regs
handle_calls_keep_fields_lem board plain worker call stop valid untied no_loads hold inv is within = elim (handle_call board valid untied no_loads plain hold inv worker call is) [
  | inl built ↦ calls_keep_fields_lem board plain worker call stop valid untied hold inv built within
  | inr keeps ↦ answered_by (λ new. HoldFields board new.regs) board plain worker call stop _ refl hold within (λ free _. (keeps free).fields stop)
]
