-- The row of a worker's open handle among those of its rail, and the handles with another row in its place.
use Rattle.std.proofs.Common.{◌≡◌, ◌≢◌, ℕ, ◌==◌, Bool, true, false, cond, List, [], ◌∷◌, ◌++◌, Some, inl, inr, refl, sym, ap, ◌∙◌, subst, arith, map, filter, length, get_or, slice_get, slice_set, All, AllPairs}
use Rattle.std.specs.Prelude.{position, option_map, nat_lt}
use Rattle.std.specs.List.{position_or_len}
use Rattle.std.proofs.lemmas.Slice.Eq.{bytes_eq-Decides}
use Rattle.std.proofs.lemmas.Bool.{and_parts, eq-eqb, eqb-true, false_from_ne_true, lt-ltb}
use Rattle.std.proofs.lemmas.List.{map-append, length-append}
use Rattle.std.proofs.lemmas.List.Elements.{All-head, All-tail, All-cons, All-nil, filter-append}
use Rattle.std.proofs.lemmas.Option.{same_Some}
use Rattle.std.proofs.lemmas.List.Sums.{sum_by-cons}
use Rattle.use_counts.specs.declared.handle_row.HandleRow.{HandleRow}
use Rattle.use_counts.specs.Uses.{is_row_of}
use Rattle.plain_board.specs.Handles.{Entry, count_own, is_own, open_of, rows_on, with_row}
use Rattle.plain_board.specs.Inv.{StandApart}
use Rattle.plain_board.proofs.OwnHandle.{pairs_first, pairs_rest}

-- lists with an element between two parts
first_between : {X : Type 0} (p : X → Bool) (front : List X) (x : X) (back : List X) → All (λ y. p y ≡ false) front → p x ≡ true → position_or_len p (front ++ x ∷ back) ≡ length front
first_between p [] x back none is = rw is refl
first_between p (y ∷ front) x back none is =
    let first : p y ≡ false = All-head (λ z. p z ≡ false) y front none in
    let rest = first_between p front x back (All-tail (λ z. p z ≡ false) y front none) is in
    rw first (omega (arith, rest))

place_between : {X : Type 0} (p : X → Bool) (front : List X) (x : X) (back : List X) → All (λ y. p y ≡ false) front → p x ≡ true → position p (front ++ x ∷ back) ≡ Some (length front)
place_between p front x back none is =
    let first = first_between p front x back none is in
    let within : nat_lt (position_or_len p (front ++ x ∷ back)) (length (front ++ x ∷ back)) ≡ true = lt-ltb _ _ (omega (arith, first, length-append front (x ∷ back))) in
    rw within (ap (λ (n : ℕ). Some n) first)

get_between : {X : Type 0} (front : List X) (x : X) (back : List X) → slice_get (front ++ x ∷ back) (length front) ≡ Some x
get_between [] x back = refl
get_between (y ∷ front) x back = get_between front x back

set_between : {X : Type 0} (front : List X) (x new : X) (back : List X) → slice_set (front ++ x ∷ back) (length front) new ≡ front ++ new ∷ back
set_between [] x new back = refl
set_between (y ∷ front) x new back = ap (λ rest. y ∷ rest) (set_between front x new back)

module _ (worker : ℕ) (name : List ℕ) where
  pub own_parts : (entry : Entry) → is_own worker name entry ≡ true → (entry.1.worker ≡ worker) × (entry.1.handle.bytes ≡ name)
  own_parts entry own =
      let both = and_parts _ _ own in
      (eqb-true entry.1.worker worker both.0, (bytes_eq-Decides entry.1.handle.bytes name).0 both.1)

  not_both : (first second : Entry) → StandApart first second → is_own worker name first ≡ true → is_own worker name second ≡ true → ⊥
  not_both first second apart one other =
      let a = own_parts first one in
      let b = own_parts second other in
      elim apart.names [ inl workers ↦ workers (a.0 ∙ sym b.0) | inr names ↦ names (a.1 ∙ sym b.1) ]

  -- the handles before the worker's of this name, it, and those behind it
  pub record Between (handles : List Entry) (entry : Entry) : Type 0 where
    pub front : List Entry
    pub back : List Entry
    pub are : handles ≡ front ++ entry ∷ back
    pub own : is_own worker name entry ≡ true
    pub none_before : All (λ x. is_own worker name x ≡ false) front
    pub none_behind : All (λ x. is_own worker name x ≡ false) back

  none_more : (x : Entry) (rest : List Entry) → is_own worker name x ≡ true → All (StandApart x) rest → All (λ y. is_own worker name y ≡ false) rest
  none_more x rest own apart k d within = false_from_ne_true _ (λ other. not_both x (get_or rest k d) (apart k d within) own other)

  between_by : (x : Entry) (rest : List Entry) (entry : Entry) (t : Bool) → is_own worker name x ≡ t → AllPairs StandApart (x ∷ rest)
      → (open_of rest worker name ≡ Some entry → Between rest entry) → cond t (Some x) (open_of rest worker name) ≡ Some entry → Between (x ∷ rest) entry
  between_by x rest entry true own apart further is =
      let same : x ≡ entry = same_Some x entry is in
      subst (Between (x ∷ rest)) same (record {
        front = [];
        back = rest;
        are = refl;
        own = own;
        none_before = All-nil (λ y. is_own worker name y ≡ false);
        none_behind = none_more x rest own (pairs_first StandApart x rest apart);
      })
  between_by x rest entry false own apart further is =
      let there = further is in
      record {
        front = x ∷ there.front;
        back = there.back;
        are = ap (λ entries. x ∷ entries) there.are;
        own = there.own;
        none_before = All-cons (λ y. is_own worker name y ≡ false) x there.front own there.none_before;
        none_behind = there.none_behind;
      }

  pub between : (handles : List Entry) (entry : Entry) → AllPairs StandApart handles → open_of handles worker name ≡ Some entry → Between handles entry
  between [] entry apart is = absurd (cc)
  between (x ∷ rest) entry apart is = between_by x rest entry (is_own worker name x) refl apart (between rest entry (pairs_rest StandApart x rest apart)) is

  -- none of the rows of handles that aren't the worker's is
  pub rows_none : (handles : List Entry) (r : ℕ) → All (λ x. is_own worker name x ≡ false) handles → All (λ row. is_row_of worker name row ≡ false) (rows_on handles r)
  rows_none [] r none = All-nil (λ row. is_row_of worker name row ≡ false)
  rows_none (x ∷ rest) r none = by (x.0.0 == r) (rows_none rest r (All-tail (λ y. is_own worker name y ≡ false) x rest none)) where
    by : (t : Bool) → All (λ row. is_row_of worker name row ≡ false) (rows_on rest r) → All (λ row. is_row_of worker name row ≡ false) (map (λ (e : Entry). e.1) (cond t (x ∷ filter (λ (e : Entry). e.0.0 == r) rest) (filter (λ (e : Entry). e.0.0 == r) rest)))
    by true further = All-cons (λ row. is_row_of worker name row ≡ false) x.1 (rows_on rest r) (All-head (λ y. is_own worker name y ≡ false) x rest none) further
    by false further = further

  -- the others are as they were
  untouched : (change : HandleRow → HandleRow) (handles : List Entry) → All (λ x. is_own worker name x ≡ false) handles → with_row handles worker name change ≡ handles
  untouched change [] none = refl
  untouched change (x ∷ rest) none =
      let first : is_own worker name x ≡ false = All-head (λ y. is_own worker name y ≡ false) x rest none in
      rw first (ap (λ entries. x ∷ entries) (untouched change rest (All-tail (λ y. is_own worker name y ≡ false) x rest none)))

  rows_split : (front : List Entry) (entry : Entry) (back : List Entry) (r : ℕ) → rows_on (front ++ entry ∷ back) r ≡ rows_on front r ++ rows_on (entry ∷ back) r
  rows_split front entry back r =
      ap (map (λ (e : Entry). e.1)) (filter-append (λ (e : Entry). e.0.0 == r) front (entry ∷ back))
      ∙ map-append (λ (e : Entry). e.1) (filter (λ (e : Entry). e.0.0 == r) front) (filter (λ (e : Entry). e.0.0 == r) (entry ∷ back))

  rows_here : (entry : Entry) (back : List Entry) → rows_on (entry ∷ back) entry.0.0 ≡ entry.1 ∷ rows_on back entry.0.0
  rows_here entry back = rw (eq-eqb entry.0.0 entry.0.0 refl) refl

  rows_away : (entry : Entry) (back : List Entry) (i : ℕ) → entry.0.0 ≢ i → rows_on (entry ∷ back) i ≡ rows_on back i
  rows_away entry back i apart = rw (false_from_ne_true (entry.0.0 == i) (λ same. absurd (apart (eqb-true entry.0.0 i same)))) refl

  module _ (handles : List Entry) (entry : Entry) (apart : AllPairs StandApart handles) (is_open : open_of handles worker name ≡ Some entry) where
    pub split : Between handles entry
    split = between handles entry apart is_open

    abbrev pub at : ℕ
    at = length (rows_on split.front entry.0.0)

    rows_are : rows_on handles entry.0.0 ≡ rows_on split.front entry.0.0 ++ entry.1 ∷ rows_on split.back entry.0.0
    rows_are =
        ap (λ entries. rows_on entries entry.0.0) split.are ∙ rows_split split.front entry split.back entry.0.0
        ∙ ap (λ rows. rows_on split.front entry.0.0 ++ rows) (rows_here entry split.back)

    -- the row's place among those of its rail
    pub row_place : position (is_row_of worker name) (rows_on handles entry.0.0) ≡ Some at
    row_place =
        ap (position (is_row_of worker name)) rows_are
        ∙ place_between (is_row_of worker name) (rows_on split.front entry.0.0) entry.1 (rows_on split.back entry.0.0) (rows_none split.front entry.0.0 split.none_before) split.own

    pub row_there : slice_get (rows_on handles entry.0.0) at ≡ Some entry.1
    row_there = ap (λ rows. slice_get rows at) rows_are ∙ get_between (rows_on split.front entry.0.0) entry.1 (rows_on split.back entry.0.0)

    module _ (change : HandleRow → HandleRow) where
      changed_are : with_row handles worker name change ≡ split.front ++ (entry.0, change entry.1) ∷ split.back
      changed_are =
          ap (λ entries. with_row entries worker name change) split.are
          ∙ map-append (λ (e : Entry). cond (is_own worker name e) (e.0, change e.1) e) split.front (entry ∷ split.back)
          ∙ ap (λ entries. entries ++ with_row (entry ∷ split.back) worker name change) (untouched change split.front split.none_before)
          ∙ ap (λ (t : Bool). split.front ++ cond t (entry.0, change entry.1) entry ∷ with_row split.back worker name change) split.own
          ∙ ap (λ entries. split.front ++ (entry.0, change entry.1) ∷ entries) (untouched change split.back split.none_behind)

      -- with another row of this handle the rows of its rail have it at its place, and those of all others are as before
      pub row_changed : rows_on (with_row handles worker name change) entry.0.0 ≡ slice_set (rows_on handles entry.0.0) at (change entry.1)
      row_changed =
          ap (λ entries. rows_on entries entry.0.0) changed_are
          ∙ rows_split split.front (entry.0, change entry.1) split.back entry.0.0
          ∙ ap (λ rows. rows_on split.front entry.0.0 ++ rows) (rows_here (entry.0, change entry.1) split.back)
          ∙ sym (ap (λ rows. slice_set rows at (change entry.1)) rows_are ∙ set_between (rows_on split.front entry.0.0) entry.1 (change entry.1) (rows_on split.back entry.0.0))

      pub rows_kept : (i : ℕ) → entry.0.0 ≢ i → rows_on (with_row handles worker name change) i ≡ rows_on handles i
      rows_kept i away =
          ap (λ entries. rows_on entries i) changed_are
          ∙ rows_split split.front (entry.0, change entry.1) split.back i
          ∙ ap (λ rows. rows_on split.front i ++ rows) (rows_away (entry.0, change entry.1) split.back i away ∙ sym (rows_away entry split.back i away))
          ∙ sym (ap (λ entries. rows_on entries i) split.are ∙ rows_split split.front entry split.back i)

-- a change that keeps a row's worker and name keeps whose it is, and where each name is open
module _ (worker : ℕ) (name : List ℕ) (change : HandleRow → HandleRow) (workers : (row : HandleRow) → (change row).worker ≡ row.worker) (names : (row : HandleRow) → (change row).handle ≡ row.handle) where
  abbrev touched : Entry → Entry
  touched entry = cond (is_own worker name entry) (entry.0, change entry.1) entry

  touched_rail : (entry : Entry) → (touched entry).0 ≡ entry.0
  touched_rail entry = by (is_own worker name entry) where
    by : (t : Bool) → (cond t (entry.0, change entry.1) entry).0 ≡ entry.0
    by true = refl
    by false = refl

  touched_own : (other : ℕ) (text : List ℕ) (entry : Entry) → is_own other text (touched entry) ≡ is_own other text entry
  touched_own other text entry = by (is_own worker name entry) where
    by : (t : Bool) → is_own other text (cond t (entry.0, change entry.1) entry) ≡ is_own other text entry
    by true = rw (workers entry.1, names entry.1) refl
    by false = refl

  touched_worker : (entry : Entry) → (touched entry).1.worker ≡ entry.1.worker
  touched_worker entry = by (is_own worker name entry) where
    by : (t : Bool) → (cond t (entry.0, change entry.1) entry).1.worker ≡ entry.1.worker
    by true = workers entry.1
    by false = refl

  found_by : (other : ℕ) (text : List ℕ) (x : Entry) (rest : List Entry) (t : Bool)
      → option_map (λ (e : Entry). e.0.0) (open_of (with_row rest worker name change) other text) ≡ option_map (λ (e : Entry). e.0.0) (open_of rest other text)
      → option_map (λ (e : Entry). e.0.0) (cond t (Some (touched x)) (open_of (with_row rest worker name change) other text)) ≡ option_map (λ (e : Entry). e.0.0) (cond t (Some x) (open_of rest other text))
  found_by other text x rest true further = ap (λ (id : _). Some id.0) (touched_rail x)
  found_by other text x rest false further = further

  pub rail_kept : (other : ℕ) (text : List ℕ) (handles : List Entry)
      → option_map (λ (e : Entry). e.0.0) (open_of (with_row handles worker name change) other text) ≡ option_map (λ (e : Entry). e.0.0) (open_of handles other text)
  rail_kept other text [] = refl
  rail_kept other text (x ∷ rest) =
      ap (λ t. option_map (λ (e : Entry). e.0.0) (cond t (Some (touched x)) (open_of (with_row rest worker name change) other text))) (touched_own other text x)
      ∙ found_by other text x rest (is_own other text x) (rail_kept other text rest)

  pub count_kept : (other : ℕ) (handles : List Entry) → count_own (with_row handles worker name change) other ≡ count_own handles other
  count_kept other [] = refl
  count_kept other (x ∷ rest) =
      let here : cond {A = ℕ} ((touched x).1.worker == other) 1 0 ≡ cond (x.1.worker == other) 1 0 = ap (λ (w : ℕ). cond {A = ℕ} (w == other) 1 0) (touched_worker x) in
      omega (arith, here, count_kept other rest, sum_by-cons (λ (e : Entry). cond (e.1.worker == other) 1 0) (touched x) (with_row rest worker name change), sum_by-cons (λ (e : Entry). cond (e.1.worker == other) 1 0) x rest)
