-- A worker's call leaves the handles of each other worker as many as they are.
use Rattle.std.proofs.Common.{◌≡◌, ◌≢◌, ℕ, Bool, true, false, cond, not, List, [], ◌∷◌, Option, Some, None, refl, sym, ap, ◌∙◌, subst, arith, length, AllPairs}
use Rattle.std.specs.Prelude.{◌==◌}
use Rattle.std.proofs.lemmas.Bool.{eqb-true, false_from_ne_true}
use Rattle.std.proofs.lemmas.List.Sums.{sum_by-cons}
use Rattle.arrayvec.specs.ArrayString.{ArrayString}
use Rattle.board.specs.declared.board.Board.{Board}
use Rattle.board.specs.declared.rail_id.RailId.{RailId}
use Rattle.board.specs.Rail.{uv}
use Rattle.rail_law.specs.Moves.{Move}
use Rattle.rows.specs.declared.answer.Answer.{Answer}
use Rattle.rows.specs.declared.call.Call.{Call}
use Rattle.rows.specs.declared.call.Call.TheVariants.{Close, Disable, Enable, Get, IsOn, Open, ReleaseBoot, Set}
use Rattle.use_counts.specs.declared.handle_row.HandleRow.{HandleRow}
use Rattle.plain_board.specs.declared.plain.Plain.{Plain}
use Rattle.plain_board.specs.Answer.{answer, answered, done, kept_request, new_row, settled, stopped, with_changed, with_request}
use Rattle.plain_board.specs.Handles.{Entry, count_own, for_open, is_own, open_of, without_open}
use Rattle.plain_board.specs.Inv.{StandApart}
use Rattle.plain_board.specs.Moved.{after_first}
use Rattle.plain_board.specs.Plan.{moves_of_call, one_less, one_more}
use Rattle.plain_board.specs.Refusals.{refusal}
use Rattle.plain_board.specs.Untied.{IsHandleCall}
use Rattle.plain_board.proofs.Grown.{after_first-grown}
use Rattle.rail_ops.proofs.Answered.{for_each}
use Rattle.rail_ops.proofs.NewHandle.{opened_count}
use Rattle.rail_ops.proofs.OneRow.{count_kept, own_parts}

module _ (board : Board) (plain : Plain) (worker other : ℕ) (apart : other ≢ worker) (kept : AllPairs StandApart plain.handles) where
  not_other : (w : ℕ) → w ≡ worker → (w == other) ≡ false
  not_other w own = false_from_ne_true (w == other) (λ is. absurd (apart (sym (eqb-true w other is) ∙ own)))

  -- without a handle of the worker
  others_without : (name : List ℕ) (handles : List Entry) → count_own (without_open handles worker name) other ≡ count_own handles other
  others_without name [] = refl
  others_without name (x ∷ rest) = by (is_own worker name x) refl (others_without name rest) where
    by : (t : Bool) → is_own worker name x ≡ t → count_own (without_open rest worker name) other ≡ count_own rest other
        → count_own (cond (not t) (x ∷ without_open rest worker name) (without_open rest worker name)) other ≡ count_own (x ∷ rest) other
    by true own further =
        let away : ◌≡◌ {A = ℕ} (cond (x.1.worker == other) 1 0) 0 = ap (λ t. cond {A = ℕ} t 1 0) (not_other x.1.worker (own_parts worker name x own).0) in
        omega (arith, further, sum_by-cons (λ (e : Entry). cond (e.1.worker == other) 1 0) x rest, away)
    by false own further =
        omega (arith, further, sum_by-cons (λ (e : Entry). cond (e.1.worker == other) 1 0) x (without_open rest worker name), sum_by-cons (λ (e : Entry). cond (e.1.worker == other) 1 0) x rest)

  abbrev Same : Plain → Type 0
  Same new = count_own new.handles other ≡ count_own plain.handles other

  module _ (now : Plain) (handles : now.handles ≡ plain.handles) where
    still : Same now
    still = ap (λ es. count_own es other) handles

    changed_same : (handle : ArrayString) (change : HandleRow → HandleRow) → ((row : HandleRow) → (change row).worker ≡ row.worker) → ((row : HandleRow) → (change row).handle ≡ row.handle) → Same (with_changed now worker handle change)
    changed_same handle change workers names = count_kept worker handle.bytes change workers names other now.handles ∙ still

    opened_same : (handle : ArrayString) (rail : RailId) (exclusive : Bool) → Same (done board now worker (Open handle rail exclusive))
    opened_same handle rail exclusive =
        let none : ◌≡◌ {A = ℕ} (cond (worker == other) 1 0) 0 = ap (λ t. cond {A = ℕ} t 1 0) (not_other worker refl) in
        let count = opened_count now.handles (subst (AllPairs StandApart) (sym handles) kept) (rail, new_row worker handle exclusive) other in
        omega (arith, count, none, still)

    done_same : (call : Call) → IsHandleCall call → Same (done board now worker call)
    done_same (Open handle rail exclusive) is = opened_same handle rail exclusive
    done_same (Close handle) is = others_without handle.bytes now.handles ∙ still
    done_same (Enable handle) is = changed_same handle one_more (λ row. refl) (λ row. refl)
    done_same (Disable handle) is = changed_same handle one_less (λ row. refl) (λ row. refl)
    done_same (Set handle lo hi) is = changed_same handle (with_request (Some (lo, hi))) (λ row. refl) (λ row. refl)
    done_same (Get handle) is = still
    done_same (IsOn handle) is = still
    done_same ReleaseBoot is = still
    done_same call is = absurd is

    -- what a stopped set leaves
    kept_same : (handle : ArrayString) (o : Option Entry)
        → Same (for_open now (λ id rail row. with_changed now worker handle (with_request (kept_request (uv rail now.regs) row.request))) board o)
    kept_same handle =
        for_each board Same now (λ id rail row. with_changed now worker handle (with_request (kept_request (uv rail now.regs) row.request))) still
        (λ id rail row. changed_same handle (with_request (kept_request (uv rail now.regs) row.request)) (λ r. refl) (λ r. refl))

    stopped_same : (call : Call) → IsHandleCall call → Same (stopped board now worker call)
    stopped_same (Open handle rail exclusive) is = still
    stopped_same (Close handle) is = still
    stopped_same (Enable handle) is = still
    stopped_same (Disable handle) is = changed_same handle one_less (λ row. refl) (λ row. refl)
    stopped_same (Set handle lo hi) is = kept_same handle (open_of now.handles worker handle.bytes)
    stopped_same (Get handle) is = still
    stopped_same (IsOn handle) is = still
    stopped_same ReleaseBoot is = still
    stopped_same call is = absurd is

  settled_same : (call : Call) → IsHandleCall call → (moves : List Move) (stop : Option ℕ) → Same (settled board plain worker call moves stop).1
  settled_same call is moves None = done_same (after_first board plain (length moves) moves) (after_first-grown board plain (length moves) moves).handles_are call is
  settled_same call is moves (Some made) = stopped_same (after_first board plain made moves) (after_first-grown board plain made moves).handles_are call is

  pub others_stay : (call : Call) → IsHandleCall call → (stop : Option ℕ) → Same (answer board plain worker call stop).1
  others_stay call is stop = by (refusal board plain worker call) where
    by : (o : Option Answer) → Same (answered board plain worker call stop o).1
    by None = settled_same call is (moves_of_call board plain worker call) stop
    by (Some said) = refl
