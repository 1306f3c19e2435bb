-- The lists of a plain board after a call's moves: those of the handles as before or with one row changed, holds, and events that have grown.
use Rattle.std.proofs.Common.{◌≡◌, ℕ, ◌≤◌, Bool, true, false, List, [], Some, refl, sym, ap, ◌∙◌, subst, arith, length, get_or, slice_get, All, AllPairs}
use Rattle.std.specs.Prelude.{slice_index_or, unwrap_or}
use Rattle.arrayvec.specs.ArrayString.{ArrayString}
use Rattle.board.specs.declared.board.Board.{Board}
use Rattle.board.specs.declared.rail.Rail.{Rail}
use Rattle.use_counts.specs.declared.handle_row.HandleRow.{HandleRow}
use Rattle.plain_board.specs.declared.plain.Plain.{Plain}
use Rattle.plain_board.specs.Handles.{count_own, with_row}
use Rattle.plain_board.specs.Counts.{is_held}
use Rattle.plain_board.specs.Answer.{with_changed}
use Rattle.plain_board.specs.Inv.{IsSoundEntry, IsWellKept, StandApart, ShareFairly}
use Rattle.plain_board.specs.Refusals.{most_handles, most_enables}
use Rattle.plain_board.proofs.ChangedRow.{KeepsName, IsOwn, asks_changed, sound_changed}
use Rattle.plain_board.proofs.Grown.{HasGrown}
use Rattle.plain_board.proofs.KeptSet.{cursor_within}
use Rattle.plain_board.proofs.KeptSwitched.{MetAt, KeepsLists}
use Rattle.plain_board.proofs.KeptUse.{HasSoundHandles}
use Rattle.plain_board.proofs.Requests.{AsksOn}

-- plain boards with the same holds hold the same rails
pub held_same : (first second : Plain) → first.holds ≡ second.holds → (i : ℕ) → is_held first i ≡ is_held second i
held_same first second holds i = ap (λ (held : List Bool). unwrap_or (slice_get held i) false) holds

module _ (board : Board) (plain : Plain) (kept : IsWellKept board plain) (now : Plain) (regs : List (List ℕ)) (grown : HasGrown plain now regs plain.handles) where
  sound_grown : (new : Plain) → new.handles ≡ now.handles → new.events ≡ now.events → HasSoundHandles board new
  sound_grown new handles events =
      let same : new.handles ≡ plain.handles = handles ∙ grown.handles_are in
      record {
        opens = subst (All (IsSoundEntry board new)) (sym same) (λ k d within.
            let is = kept.opens k d within in
            let more = grown.events (get_or plain.handles k d).0.0 in
            let longer = ap (λ told. length (slice_index_or told (get_or plain.handles k d).0.0 [])) events in
            record { rail = is.rail; enables = is.enables; cursor = cursor_within _ _ _ (omega (arith, more, longer)) is.cursor });
        apart = subst (AllPairs StandApart) (sym same) kept.apart;
        few = λ w. subst (λ handles. count_own handles w ≤ most_handles) (sym same) (kept.few w);
        alone = subst (AllPairs ShareFairly) (sym same) kept.alone;
      }

  -- with other holds, that hold each rail that is always on
  pub lists_held : (new : Plain) → new.handles ≡ now.handles → new.events ≡ now.events → length new.holds ≡ length plain.holds
      → ((i : ℕ) (rail : Rail) → slice_get board.rails i ≡ Some rail → rail.limits.always_on ≡ true → is_held new i ≡ true) → KeepsLists board plain new
  lists_held new handles events holds always = record {
    asks = λ v i. subst (All (AsksOn (MetAt v) i)) (sym (handles ∙ grown.handles_are));
    handles = sound_grown new handles events;
    holds = holds;
    events = ap length events ∙ grown.rails;
    always = always;
  }

  -- as they are
  pub lists_grown : KeepsLists board plain now
  lists_grown =
      lists_held now refl refl (ap length grown.holds) (λ i rail at always. held_same now plain grown.holds i ∙ kept.always i rail at always)

  -- with another row of a worker's handle
  pub lists_changed : (worker : ℕ) (handle : ArrayString) (change : HandleRow → HandleRow) → KeepsName change
      → All (λ entry. IsOwn worker handle.bytes change entry → (change entry.1).enables ≤ most_enables) plain.handles → KeepsLists board plain (with_changed now worker handle change)
  lists_changed worker handle change keeps few =
      let new : Plain = with_changed now worker handle change in
      let is : new.handles ≡ with_row plain.handles worker handle.bytes change = ap (λ handles. with_row handles worker handle.bytes change) grown.handles_are in
      record {
        asks = λ v i all. subst (All (AsksOn (MetAt v) i)) (sym is) (asks_changed worker handle.bytes change keeps (MetAt v) i plain.handles all);
        handles = sound_changed worker handle.bytes change keeps board plain new kept is grown.events few;
        holds = ap length grown.holds;
        events = grown.rails;
        always = λ i rail at always. held_same now plain grown.holds i ∙ kept.always i rail at always;
      }
