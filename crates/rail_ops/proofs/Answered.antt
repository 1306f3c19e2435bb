-- What the answers of calls on handles tell: a refusal is no fault, and a fault names rails of the board.
use Rattle.std.proofs.Common.{◌≡◌, ℕ, ◌+◌, ◌<◌, true, false, not, List, [], ◌∷◌, Option, Some, None, refl, subst, arith, find, length, slice_get, All}
use Rattle.std.specs.Prelude.{◌==◌}
use Rattle.std.specs.List.{enumerate_from}
use Rattle.std.proofs.lemmas.List.Elements.{All-cons, All-filter, All-map, All-nil}
use Rattle.board.specs.declared.board.Board.{Board}
use Rattle.board.specs.declared.rail.Rail.{Rail}
use Rattle.board.specs.declared.rail_id.RailId.{RailId}
use Rattle.board.specs.Rail.{uv}
use Rattle.rail_law.specs.Moves.{Move}
use Rattle.rows.specs.declared.answer.Answer.{Answer}
use Rattle.rows.specs.declared.answer.Answer.TheVariants.{Fault, NoHandle}
use Rattle.rows.specs.declared.call.Call.{Call}
use Rattle.rows.specs.declared.call.Call.TheVariants.{Close, Disable, Enable, Get, IsOn, Open, ReleaseBoot, Set}
use Rattle.rows.specs.Row.{HasRails}
use Rattle.use_counts.specs.declared.handle_row.HandleRow.{HandleRow}
use Rattle.plain_board.specs.declared.plain.Plain.{Plain}
use Rattle.plain_board.specs.Answer.{answer, answered, changed_rails, says, settled}
use Rattle.plain_board.specs.Handles.{Entry, for_open, on_rail, open_of}
use Rattle.plain_board.specs.History.{is_fault}
use Rattle.plain_board.specs.Moved.{after_first}
use Rattle.plain_board.specs.Plan.{moves_of_call}
use Rattle.plain_board.specs.Refusals.{Reason, open_reasons, reasons, refusal}
use Rattle.plain_board.specs.Untied.{IsHandleCall}
use Rattle.rail_ops.proofs.Found.{found_has, some_of}

-- it is no fault
abbrev Calm : Reason → Type 0
Calm reason = is_fault reason.1 ≡ false

-- what holds of what is said of an open handle, and where there is none, holds of what is said
pub for_each : (board : Board) {A : Type 0} (P : A → Type 0) (none : A) (said : RailId → Rail → HandleRow → A) → P none → ((id : RailId) (rail : Rail) (row : HandleRow) → P (said id rail row)) → (o : Option Entry) → P (for_open none said board o)
for_each board P none said missing each None = missing
for_each board P none said missing each (Some entry) = by (slice_get board.rails entry.0.0) where
  by : (o : Option Rail) → P (on_rail none said entry o)
  by None = missing
  by (Some rail) = each entry.0 rail entry.1

module _ (board : Board) (plain : Plain) (worker : ℕ) where
  calm_open : (said : RailId → Rail → HandleRow → List Reason) (name : List ℕ) → ((id : RailId) (rail : Rail) (row : HandleRow) → All Calm (said id rail row)) → All Calm (open_reasons said board plain worker name)
  calm_open said name each =
      for_each board (All Calm) ((true, NoHandle) ∷ []) said (All-cons Calm (true, NoHandle) [] refl (All-nil Calm)) each (open_of plain.handles worker name)

  one : (a : Reason) → Calm a → All Calm (a ∷ [])
  one a calm = All-cons Calm a [] calm (All-nil Calm)

  two : (a b : Reason) → Calm a → Calm b → All Calm (a ∷ b ∷ [])
  two a b calm other = All-cons Calm a (b ∷ []) calm (one b other)

  three : (a b c : Reason) → Calm a → Calm b → Calm c → All Calm (a ∷ b ∷ c ∷ [])
  three a b c calm other last = All-cons Calm a (b ∷ c ∷ []) calm (two b c other last)

  calm_reasons : (call : Call) → IsHandleCall call → All Calm (reasons board plain worker call)
  calm_reasons (Open handle rail exclusive) is = three _ _ _ refl refl refl
  calm_reasons (Close handle) is = calm_open _ handle.bytes (λ id rail row. one _ refl)
  calm_reasons (Enable handle) is = calm_open _ handle.bytes (λ id rail row. three _ _ _ refl refl refl)
  calm_reasons (Disable handle) is = calm_open _ handle.bytes (λ id rail row. two _ _ refl refl)
  calm_reasons (Set handle lo hi) is = calm_open _ handle.bytes (λ id rail row. three _ _ _ refl refl refl)
  calm_reasons (Get handle) is = calm_open _ handle.bytes (λ id rail row. All-nil Calm)
  calm_reasons (IsOn handle) is = calm_open _ handle.bytes (λ id rail row. All-nil Calm)
  calm_reasons ReleaseBoot is = one _ refl
  calm_reasons call is = absurd is

  -- a refusal is no fault
  refusal_is_calm : (call : Call) → IsHandleCall call → (said : Answer) → refusal board plain worker call ≡ Some said → is_fault said ≡ false
  refusal_is_calm call is said refused =
      let reason = some_of (λ (reason : Reason). reason.1) (find (λ (reason : Reason). reason.0) (reasons board plain worker call)) said refused in
      subst (λ (a : Answer). is_fault a ≡ false) reason.2 (found_has Calm (λ (r : Reason). r.0) (reasons board plain worker call) reason.0 (calm_reasons call is) reason.1)

  -- nor is what is said where all was done
  done_is_calm : (call : Call) → IsHandleCall call → (now : Plain) → is_fault (says board plain now worker call) ≡ false
  done_is_calm (Open handle rail exclusive) is now = refl
  done_is_calm (Close handle) is now = refl
  done_is_calm (Enable handle) is now = refl
  done_is_calm (Disable handle) is now = refl
  done_is_calm (Set handle lo hi) is now = for_each board (λ a. is_fault a ≡ false) NoHandle _ refl (λ id rail row. refl) (open_of plain.handles worker handle.bytes)
  done_is_calm (Get handle) is now = for_each board (λ a. is_fault a ≡ false) NoHandle _ refl (λ id rail row. refl) (open_of plain.handles worker handle.bytes)
  done_is_calm (IsOn handle) is now = for_each board (λ a. is_fault a ≡ false) NoHandle _ refl (λ id rail row. refl) (open_of plain.handles worker handle.bytes)
  done_is_calm ReleaseBoot is now = refl
  done_is_calm call is now = absurd is

  calm_rails : (said : Answer) → is_fault said ≡ false → HasRails board said
  calm_rails (Fault chip reg applied now) calm = absurd (cc)
  calm_rails said calm = tt

  -- the numbers of some rails lie below how many there are
  numbered : (from : ℕ) (rails : List Rail) → All (λ (entry : ℕ × Rail). entry.0 < from + length rails) (enumerate_from from rails)
  numbered from [] = All-nil (λ (entry : ℕ × Rail). entry.0 < from + 0)
  numbered from (rail ∷ rest) =
      All-cons (λ (entry : ℕ × Rail). entry.0 < from + length (rail ∷ rest)) (from, rail) (enumerate_from (from + 1) rest) (omega arith)
      (λ k d within. let less = numbered (from + 1) rest k d within in omega (arith, less))

  changed_there : (before now : List (List ℕ)) → All (λ (entry : RailId × ℕ). entry.0.0 < length board.rails) (changed_rails board before now)
  changed_there before now =
      All-map (λ (entry : RailId × ℕ). entry.0.0 < length board.rails) _ _
      (All-filter (λ (rail : ℕ × Rail). not (uv rail.1 before == uv rail.1 now)) (λ (entry : ℕ × Rail). entry.0 < length board.rails) (enumerate_from 0 board.rails)
      (λ k d within. let less = numbered 0 board.rails k d within in omega (arith, less)))

  settled_rails : (call : Call) → IsHandleCall call → (moves : List Move) (stop : Option ℕ) → HasRails board (settled board plain worker call moves stop).0
  settled_rails call is moves None = calm_rails _ (done_is_calm call is (after_first board plain (length moves) moves))
  settled_rails call is moves (Some made) = changed_there plain.regs (after_first board plain made moves).regs

  -- so the rails that an answer names are the board's
  pub answer_rails : (call : Call) → IsHandleCall call → (stop : Option ℕ) → HasRails board (answer board plain worker call stop).0
  answer_rails call is stop = by (refusal board plain worker call) refl where
    by : (o : Option Answer) → refusal board plain worker call ≡ o → HasRails board (answered board plain worker call stop o).0
    by None free = settled_rails call is (moves_of_call board plain worker call) stop
    by (Some said) refused = calm_rails said (refusal_is_calm call is said refused)
