-- Each worker's handle asks once: what stands without its request, and with a new one.
use Rattle.std.proofs.Common.{◌≡◌, ℕ, ◌<◌, ◌^◌, Bool, true, false, cond, List, [], ◌∷◌, Some, None, refl, sym, ap, ◌∙◌, inl, inr, map, length, get_or, not, eq-eqb}
use Rattle.std.specs.Prelude.{position, remove, find, slice_get, option_map}
use Rattle.std.proofs.lemmas.Bool.{and_parts, and_from, eqb-true, false_from_ne_true, false≢true, not-true, cases_order}
use Rattle.std.proofs.lemmas.List.Elements.{filter_passes, All-filter, All-push}
use Rattle.std.proofs.lemmas.List.Kept.{AllPairs-filter}
use Rattle.std.proofs.lemmas.List.Quantifiers.{all_pairs_push, position-Some}
use Rattle.std.proofs.lemmas.Slice.Eq.{bytes_eq-Decides}
use Rattle.request_set.specs.declared.row.Row.{Row}
use Rattle.request_set.specs.Requests.{Asking, is_asked_by, without, with_asked, asked_by, AskOnce}
use Rattle.request_set.specs.Inside.{asking_of, is_row_of, AreKept}
use Rattle.request_set.proofs.Places.{filter_none, filter_one, map-remove, position-map, none_placed, find_none, find_placed}

-- the bounds of a request, and of a row
abbrev asked : Asking → ℕ × ℕ
asked a = (a.least, a.greatest)

abbrev pub asked_in : Row → ℕ × ℕ
asked_in row = (row.least, row.greatest)

asker_is : (worker : ℕ) (name : List ℕ) (a : Asking) → is_asked_by worker name a ≡ true → (a.worker ≡ worker) × (a.name ≡ name)
asker_is worker name a is =
    let both = and_parts _ _ is in
    (eqb-true a.worker worker both.0, (bytes_eq-Decides a.name name).0 both.1)

is_asker : (worker : ℕ) (name : List ℕ) (a : Asking) → a.worker ≡ worker → a.name ≡ name → is_asked_by worker name a ≡ true
is_asker worker name a same_worker same_name = and_from _ _ (eq-eqb a.worker worker same_worker) ((bytes_eq-Decides a.name name).1 same_name)

same_asker : (worker : ℕ) (name : List ℕ) (a b : Asking) → is_asked_by worker name a ≡ true → is_asked_by worker name b ≡ is_asked_by a.worker a.name b
same_asker worker name a b is =
    let who = asker_is worker name a is in
    ap (λ w. is_asked_by w name b) (sym who.0) ∙ ap (λ n. is_asked_by a.worker n b) (sym who.1)

-- the request of a handle is the only one of it
without_one : (worker : ℕ) (name : List ℕ) (list : List Asking) (at : ℕ) → AskOnce list → position (is_asked_by worker name) list ≡ Some at → without worker name list ≡ remove list at
without_one worker name [] at once is = absurd cc
without_one worker name (first ∷ rest) at once is =
    let list = first ∷ rest in
    let p = is_asked_by worker name in
    filter_one p list at (position-Some p list at first is).0
    (λ k d within apart. elim (cases_order k at) [
      | inl same ↦ absurd (apart same)
      | inr (inl before) ↦ (position-Some p list at d is).2 k before
      | inr (inr behind) ↦ same_asker worker name (get_or list at d) (get_or list k d) (position-Some p list at d is).1 ∙ once at k d behind within
    ])
    (λ d. (position-Some p list at d is).1)

-- the rows without that of a handle
pub without_row : (worker : ℕ) (name : List ℕ) (rows : List Row) (at : ℕ) → AskOnce (map asking_of rows) → position (is_row_of worker name) rows ≡ Some at
    → map asking_of (remove rows at) ≡ without worker name (map asking_of rows)
without_row worker name rows at once is =
    map-remove asking_of rows at ∙ sym (without_one worker name (map asking_of rows) at once (position-map asking_of (is_asked_by worker name) rows ∙ is))

none_asked : (worker : ℕ) (name : List ℕ) (rows : List Row) → position (is_row_of worker name) rows ≡ None
    → (k : ℕ) (d : Asking) → k < length (map asking_of rows) → is_asked_by worker name (get_or (map asking_of rows) k d) ≡ false
none_asked worker name rows none = none_placed (is_asked_by worker name) (map asking_of rows) (position-map asking_of (is_asked_by worker name) rows ∙ none)

pub without_none : (worker : ℕ) (name : List ℕ) (rows : List Row) → position (is_row_of worker name) rows ≡ None → map asking_of rows ≡ without worker name (map asking_of rows)
without_none worker name rows none = sym (filter_none (is_asked_by worker name) (map asking_of rows) (none_asked worker name rows none))

pub asked_by_none : (worker : ℕ) (name : List ℕ) (rows : List Row) → position (is_row_of worker name) rows ≡ None → asked_by worker name (map asking_of rows) ≡ None
asked_by_none worker name rows none =
    ap (option_map asked) (find_none (is_asked_by worker name) (map asking_of rows) (none_asked worker name rows none))

found_row_step : (row : Row) (rest : List Row) (worker : ℕ) (name : List ℕ) (t : Bool)
    → option_map asked_in (find (is_row_of worker name) rest) ≡ asked_by worker name (map asking_of rest)
    → option_map asked_in (cond t (Some row) (find (is_row_of worker name) rest))
    ≡ option_map asked (cond t (Some (asking_of row)) (find (is_asked_by worker name) (map asking_of rest)))
found_row_step row rest worker name true ih = refl
found_row_step row rest worker name false ih = ih

found_row : (worker : ℕ) (name : List ℕ) (rows : List Row) → option_map asked_in (find (is_row_of worker name) rows) ≡ asked_by worker name (map asking_of rows)
found_row worker name [] = refl
found_row worker name (row ∷ rows) = found_row_step row rows worker name (is_row_of worker name row) (found_row worker name rows)

-- what the row at its place asks
pub asked_by_row : (worker : ℕ) (name : List ℕ) (rows : List Row) (at : ℕ) → position (is_row_of worker name) rows ≡ Some at
    → option_map asked_in (slice_get rows at) ≡ asked_by worker name (map asking_of rows)
asked_by_row worker name rows at is = ap (option_map asked_in) (sym (find_placed (is_row_of worker name) rows at is)) ∙ found_row worker name rows

once_without : (worker : ℕ) (name : List ℕ) (list : List Asking) → AskOnce list → AskOnce (without worker name list)
once_without worker name list once = AllPairs-filter (λ one other. is_asked_by one.worker one.name other ≡ false) (λ a. not (is_asked_by worker name a)) list once

once_with : (worker : ℕ) (name : List ℕ) (lo hi : ℕ) (list : List Asking) → AskOnce list → AskOnce (with_asked worker name lo hi list)
once_with worker name lo hi list once =
    let anew : Asking = record { worker = worker; name = name; least = lo; greatest = hi } in
    all_pairs_push (λ one other. is_asked_by one.worker one.name other ≡ false) (without worker name list) anew (once_without worker name list once)
    (λ k d within.
    let other = get_or (without worker name list) k d in
    let apart : is_asked_by worker name other ≡ false = not-true _ (filter_passes (λ a. not (is_asked_by worker name a)) list k d within) in
    false_from_ne_true (is_asked_by other.worker other.name anew)
    (λ same.
    let who = asker_is other.worker other.name anew same in
    false≢true (sym apart ∙ is_asker worker name other (sym who.0) (sym who.1))))

-- what holds of requests holds without one of them, and with a new one
pub kept_without : (worker : ℕ) (name : List ℕ) (list : List Asking) → AreKept list → AreKept (without worker name list)
kept_without worker name list kept =
    record { once = once_without worker name list kept.once; fit = All-filter (λ a. not (is_asked_by worker name a)) (λ (a : Asking). a.greatest < 2 ^ 32) list kept.fit }

pub kept_with : (worker : ℕ) (name : List ℕ) (lo hi : ℕ) (list : List Asking) → hi < 2 ^ 32 → AreKept list → AreKept (with_asked worker name lo hi list)
kept_with worker name lo hi list small kept =
    record {
      once = once_with worker name lo hi list kept.once;
      fit = All-push (λ (a : Asking). a.greatest < 2 ^ 32) (without worker name list) (record { worker = worker; name = name; least = lo; greatest = hi }) (kept_without worker name list kept).fit small;
    }
