-- The handles when the row of a worker's handle changes, but not its name, its request and its cursor.
use Rattle.std.proofs.Common.{◌≡◌, ℕ, ◌≤◌, Bool, true, false, cond, List, [], ◌∷◌, refl, sym, ap, ◌∙◌, subst, arith, map, get_or, sum_by, All, AllPairs}
use Rattle.std.specs.Prelude.{◌==◌, IfSome, slice_index_or, length}
use Rattle.std.proofs.lemmas.List.Elements.{All-map, All-head, All-tail}
use Rattle.std.proofs.lemmas.Bool.{eqb-true}
use Rattle.std.proofs.lemmas.List.Sums.{sum_by-cons}
use Rattle.board.specs.declared.board.Board.{Board}
use Rattle.use_counts.specs.declared.handle_row.HandleRow.{HandleRow}
use Rattle.plain_board.specs.declared.plain.Plain.{Plain}
use Rattle.plain_board.specs.Handles.{Entry, is_own, count_own, rows_on, with_row}
use Rattle.plain_board.specs.Inv.{StandApart, ShareFairly, IsSoundEntry, IsWellKept}
use Rattle.plain_board.specs.Refusals.{most_handles, most_enables}
use Rattle.plain_board.proofs.ChangedRequest.{AllPairs-map, sum_by-map_same}
use Rattle.plain_board.proofs.KeptSet.{cursor_within}
use Rattle.plain_board.proofs.KeptUse.{HasSoundHandles}
use Rattle.plain_board.proofs.Requests.{adds, sum_by-rows, AsksOn}

-- whose handle it is and its name, what it asks, how far it has heard, and whether it is to be alone stay
pub record KeepsName (change : HandleRow → HandleRow) : Type 0 where
  pub worker : (row : HandleRow) → (change row).worker ≡ row.worker
  pub handle : (row : HandleRow) → (change row).handle ≡ row.handle
  pub request : (row : HandleRow) → (change row).request ≡ row.request
  pub cursor : (row : HandleRow) → (change row).cursor ≡ row.cursor
  pub exclusive : (row : HandleRow) → (change row).exclusive ≡ row.exclusive

module _ (worker : ℕ) (name : List ℕ) (change : HandleRow → HandleRow) where
  -- a handle after that
  abbrev pub with_change : Entry → Entry
  with_change entry = cond (is_own worker name entry) (entry.0, change entry.1) entry

  abbrev pub IsOwn : Entry → Type 0
  IsOwn entry = is_own worker name entry ≡ true

  -- what holds of the other handles, and of this one with its new row
  pub all_changed : (P : Entry → Type 0) (handles : List Entry) → All (λ entry. is_own worker name entry ≡ false → P entry) handles → All (λ entry. IsOwn entry → P (entry.0, change entry.1)) handles
      → All P (with_row handles worker name change)
  all_changed P handles others own =
      All-map P with_change handles (λ k d within. by (get_or handles k d) (is_own worker name (get_or handles k d)) refl (others k d within) (own k d within))
    where
      by : (entry : Entry) (t : Bool) → is_own worker name entry ≡ t → (is_own worker name entry ≡ false → P entry) → (IsOwn entry → P (entry.0, change entry.1))
          → P (cond t (entry.0, change entry.1) entry)
      by entry true is other here = here is
      by entry false is other here = other is

  sum_no_more : (g : Entry → ℕ) (handles : List Entry) → All (λ entry. IsOwn entry → g (entry.0, change entry.1) ≤ g entry) handles → sum_by g (map with_change handles) ≤ sum_by g handles
  sum_no_more g [] all = omega arith
  sum_no_more g (entry ∷ rest) all =
      let first = by (is_own worker name entry) refl (All-head (λ e. IsOwn e → g (e.0, change e.1) ≤ g e) entry rest all) in
      omega (arith, sum_by-cons g (with_change entry) (map with_change rest), sum_by-cons g entry rest, first, sum_no_more g rest (All-tail (λ e. IsOwn e → g (e.0, change e.1) ≤ g e) entry rest all))
    where
      by : (t : Bool) → is_own worker name entry ≡ t → (IsOwn entry → g (entry.0, change entry.1) ≤ g entry) → g (cond t (entry.0, change entry.1) entry) ≤ g entry
      by true is own = own is
      by false is own = omega arith

  -- where the new row adds no more to a rail than the old one, the rows of the rail add up to no more
  pub rows_no_more : (of_row : HandleRow → ℕ) (i : ℕ) (handles : List Entry) → All (λ entry. IsOwn entry → entry.0.0 ≡ i → of_row (change entry.1) ≤ of_row entry.1) handles
      → sum_by of_row (rows_on (with_row handles worker name change) i) ≤ sum_by of_row (rows_on handles i)
  rows_no_more of_row i handles all =
      let less = sum_no_more (adds of_row i) handles (λ k d within own. by (get_or handles k d) (all k d within own)) in
      omega (arith, less, sum_by-rows of_row i (map with_change handles), sum_by-rows of_row i handles)
    where
      by : (entry : Entry) → (entry.0.0 ≡ i → of_row (change entry.1) ≤ of_row entry.1) → adds of_row i (entry.0, change entry.1) ≤ adds of_row i entry
      by entry less = by_rail (entry.0.0 == i) refl less where
        by_rail : (t : Bool) → (entry.0.0 == i) ≡ t → (entry.0.0 ≡ i → of_row (change entry.1) ≤ of_row entry.1) → cond t (of_row (change entry.1)) 0 ≤ cond t (of_row entry.1) 0
        by_rail true is less = less (eqb-true entry.0.0 i is)
        by_rail false is less = omega arith

  module _ (keeps : KeepsName change) where
    worker_same : (entry : Entry) → (with_change entry).1.worker ≡ entry.1.worker
    worker_same entry = by (is_own worker name entry) where
      by : (t : Bool) → (cond t (entry.0, change entry.1) entry).1.worker ≡ entry.1.worker
      by true = keeps.worker entry.1
      by false = refl

    exclusive_same : (entry : Entry) → (with_change entry).1.exclusive ≡ entry.1.exclusive
    exclusive_same entry = by (is_own worker name entry) where
      by : (t : Bool) → (cond t (entry.0, change entry.1) entry).1.exclusive ≡ entry.1.exclusive
      by true = keeps.exclusive entry.1
      by false = refl

    handle_same : (entry : Entry) → (with_change entry).1.handle ≡ entry.1.handle
    handle_same entry = by (is_own worker name entry) where
      by : (t : Bool) → (cond t (entry.0, change entry.1) entry).1.handle ≡ entry.1.handle
      by true = keeps.handle entry.1
      by false = refl

    rail_same : (entry : Entry) → (with_change entry).0 ≡ entry.0
    rail_same entry = by (is_own worker name entry) where
      by : (t : Bool) → (cond t (entry.0, change entry.1) entry).0 ≡ entry.0
      by true = refl
      by false = refl

    few_changed : (handles : List Entry) (w : ℕ) → count_own (with_row handles worker name change) w ≡ count_own handles w
    few_changed handles w =
        sum_by-map_same (λ (entry : Entry). cond (entry.1.worker == w) 1 0) with_change handles (λ entry. ap (λ n. cond (n == w) 1 0) (worker_same entry))

    apart_changed : (handles : List Entry) → AllPairs StandApart handles → AllPairs StandApart (with_row handles worker name change)
    apart_changed handles all = AllPairs-map StandApart with_change handles by all where
      by : (a b : Entry) → StandApart a b → StandApart (with_change a) (with_change b)
      by a b apart = record {
        rails = rw (rail_same a, rail_same b) apart.rails;
        names = rw (worker_same a, worker_same b, handle_same a, handle_same b) apart.names;
      }

    fair_changed : (handles : List Entry) → AllPairs ShareFairly handles → AllPairs ShareFairly (with_row handles worker name change)
    fair_changed handles all = AllPairs-map ShareFairly with_change handles by all where
      by : (a b : Entry) → ShareFairly a b → ShareFairly (with_change a) (with_change b)
      by a b fair same =
          let both = fair (ap (λ id. id.0) (sym (rail_same a)) ∙ same ∙ ap (λ id. id.0) (rail_same b)) in
          (exclusive_same a ∙ both.0, exclusive_same b ∙ both.1)

    -- what is asked stays
    pub asks_changed : (P : ℕ × ℕ → Type 0) (i : ℕ) (handles : List Entry) → All (AsksOn P i) handles → All (AsksOn P i) (with_row handles worker name change)
    asks_changed P i handles all =
        all_changed (AsksOn P i) handles (λ k d within other. all k d within)
        (λ k d within own here. subst (λ o. IfSome o P) (sym (keeps.request (get_or handles k d).1)) (all k d within here))

    -- and the handles are sound, where the new row has no more enables than it can have
    pub sound_changed : (board : Board) (plain new : Plain) → IsWellKept board plain → new.handles ≡ with_row plain.handles worker name change
        → ((i : ℕ) → length (slice_index_or plain.events i []) ≤ length (slice_index_or new.events i []))
        → All (λ entry. IsOwn entry → (change entry.1).enables ≤ most_enables) plain.handles → HasSoundHandles board new
    sound_changed board plain new kept is grown few = record {
      opens = subst (All (IsSoundEntry board new)) (sym is)
          (all_changed (IsSoundEntry board new) plain.handles
          (λ k d within other.
          let sound = kept.opens k d within in
          record { rail = sound.rail; enables = sound.enables; cursor = cursor_within _ _ _ (grown (get_or plain.handles k d).0.0) sound.cursor })
          (λ k d within own.
          let sound = kept.opens k d within in
          record {
            rail = sound.rail;
            enables = few k d within own;
            cursor = subst (λ o. IfSome o (λ cursor. cursor ≤ length (slice_index_or new.events (get_or plain.handles k d).0.0 []))) (sym (keeps.cursor (get_or plain.handles k d).1))
                (cursor_within _ _ _ (grown (get_or plain.handles k d).0.0) sound.cursor);
          }));
      apart = subst (AllPairs StandApart) (sym is) (apart_changed plain.handles kept.apart);
      few = λ w. subst (λ handles. count_own handles w ≤ most_handles) (sym is) (omega (arith, few_changed plain.handles w, kept.few w));
      alone = subst (AllPairs ShareFairly) (sym is) (fair_changed plain.handles kept.alone);
    }
