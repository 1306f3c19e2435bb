-- The books of all rails as they are made: first without handles, then with each handle on its rail.
use Rattle.std.proofs.Common.{◌≡◌, ◌⊎◌, ℕ, ◌+◌, ◌<◌, ◌≤◌, ◌^◌, Bool, true, false, cond, eqb, List, [], ◌∷◌, ◌++◌, refl, sym, ap, subst, ◌∙◌, inl, inr, arith, length, get_or, map, filter, take, slice_set, eq-eqb, All, AllPairs, length-take-le}
use Rattle.std.specs.Prelude.{slice_index_or, slice_index, bytes_eq}
use Rattle.std.proofs.lemmas.Bool.{eqb-true, and_parts, cases_order, false≢true}
use Rattle.std.proofs.lemmas.List.{length-set, length-map, length_push, take_more, get_or-take, get_or-set_same, get_or-set_other, get_or_append_left, get_or_at, get_or_read}
use Rattle.std.proofs.lemmas.Slice.Eq.{bytes_eq-Decides}
use Rattle.std.proofs.lemmas.List.Elements.{All-map, All-filter}
use Rattle.std.proofs.lemmas.List.Sums.{length-filter, count_by-le-length}
use Rattle.board.specs.declared.event.Event.{Event}
use Rattle.use_counts.specs.Book.{Book}
use Rattle.use_counts.specs.Uses.{is_row_of}
use Rattle.plain_board.specs.Handles.{Entry, rows_on}
use Rattle.plain_board.specs.Inv.{StandApart}
use Rattle.rail_ops.specs.Inside.Alone.{AreBooks, blank, no_book, with_rows}

-- the handles of a rail, with one more handle behind them
module _ (new : Entry) (i : ℕ) where
  more_on : (es : List Entry) → eqb new.0.0 i ≡ true → rows_on (es ++ new ∷ []) i ≡ rows_on es i ++ new.1 ∷ []
  more_on [] is = rw is refl
  more_on (e ∷ es) is = at (eqb e.0.0 i) (more_on es is) where
    at : (t : Bool) → rows_on (es ++ new ∷ []) i ≡ rows_on es i ++ new.1 ∷ [] → map (λ (x : Entry). x.1) (cond t (e ∷ filter (λ x. eqb x.0.0 i) (es ++ new ∷ [])) (filter (λ x. eqb x.0.0 i) (es ++ new ∷ [])))
        ≡ map (λ (x : Entry). x.1) (cond t (e ∷ filter (λ x. eqb x.0.0 i) es) (filter (λ x. eqb x.0.0 i) es)) ++ new.1 ∷ []
    at true rest = ap (λ rows. e.1 ∷ rows) rest
    at false rest = rest

  more_off : (es : List Entry) → eqb new.0.0 i ≡ false → rows_on (es ++ new ∷ []) i ≡ rows_on es i
  more_off [] is = rw is refl
  more_off (e ∷ es) is = at (eqb e.0.0 i) (more_off es is) where
    at : (t : Bool) → rows_on (es ++ new ∷ []) i ≡ rows_on es i → map (λ (x : Entry). x.1) (cond t (e ∷ filter (λ x. eqb x.0.0 i) (es ++ new ∷ [])) (filter (λ x. eqb x.0.0 i) (es ++ new ∷ [])))
        ≡ map (λ (x : Entry). x.1) (cond t (e ∷ filter (λ x. eqb x.0.0 i) es) (filter (λ x. eqb x.0.0 i) es))
    at true rest = ap (λ rows. e.1 ∷ rows) rest
    at false rest = rest

-- a rail has no more handles than there are
few_on : (es : List Entry) (i : ℕ) → length (rows_on es i) ≤ length es
few_on es i =
    omega (arith, length-map (filter (λ (e : Entry). eqb e.0.0 i) es) (λ (e : Entry). e.1), length-filter (λ (e : Entry). eqb e.0.0 i) es, count_by-le-length (λ (e : Entry). eqb e.0.0 i) es)

refuted : (t : Bool) → (t ≡ true → ⊥) → t ≡ false
refuted false not = refl
refuted true not = absurd (not refl)

-- of two handles that stand apart the second isn't of the worker and name of the first
names_apart : (one two : Entry) → StandApart one two → is_row_of one.1.worker one.1.handle.bytes two.1 ≡ false
names_apart one two apart =
    refuted (is_row_of one.1.worker one.1.handle.bytes two.1) (λ is.
    let parts = and_parts (eqb two.1.worker one.1.worker) (bytes_eq two.1.handle.bytes one.1.handle.bytes) is in
    elim apart.names [
      | inl workers ↦ workers (sym (eqb-true two.1.worker one.1.worker parts.0))
      | inr names ↦ names (sym ((bytes_eq-Decides two.1.handle.bytes one.1.handle.bytes).0 parts.1))
    ])

-- a handle goes to its rail
module _ (old books : List Book) (handles : List Entry) (n k : ℕ) (entry : Entry) (book : Book)
    (are : AreBooks n (with_rows old (take k handles)) books) (within : k < length handles) (is : entry ≡ get_or handles k entry) (on : entry.0.0 < n)
    (its : book ≡ get_or books entry.0.0 book) where
  there : entry.0.0 < length books
  there = subst (λ (m : ℕ). entry.0.0 < m) (sym are.as_many) on

  pub book_is : book ≡ with_rows old (take k handles) entry.0.0
  book_is = get_or_read books entry.0.0 book there its no_book ∙ are.each entry.0.0 on

  grown : (i : ℕ) → rows_on (take (k + 1) handles) i ≡ rows_on (take k handles ++ entry ∷ []) i
  grown i = ap (λ es. rows_on es i) (take_more handles k entry within ∙ ap (λ e. take k handles ++ e ∷ []) (sym is))

  pub room_for : k < 4294967295 → length book.rows + 1 < 2 ^ 32
  room_for few =
      let rows = ap (λ (b : Book). length b.rows) book_is in
      omega (arith, rows, few_on (take k handles) entry.0.0, length-take-le k handles (omega (arith, within)))

  pub new_on_rail : AllPairs StandApart handles → All (λ other. is_row_of other.worker other.handle.bytes entry.1 ≡ false) book.rows
  new_on_rail apart =
      subst (λ (b : Book). All (λ other. is_row_of other.worker other.handle.bytes entry.1 ≡ false) b.rows) (sym book_is)
      (All-map (λ other. is_row_of other.worker other.handle.bytes entry.1 ≡ false) (λ (e : Entry). e.1) (filter (λ (e : Entry). eqb e.0.0 entry.0.0) (take k handles))
      (All-filter (λ (e : Entry). eqb e.0.0 entry.0.0) (λ (e : Entry). is_row_of e.1.worker e.1.handle.bytes entry.1 ≡ false) (take k handles) (λ i d inside.
      let before : i < k = omega (arith, inside, length-take-le k handles (omega (arith, within))) in
      let stand : StandApart (get_or (take k handles) i d) entry =
      subst (λ (e : Entry). StandApart e entry) (sym (get_or-take k handles i d before))
      (subst (StandApart (get_or handles i d)) (sym (get_or_read handles k entry within is d)) (apart i k d before within)) in
      names_apart (get_or (take k handles) i d) entry stand)))

  pub handed_over : (new : Book) → new ≡ record book { rows = book.rows ++ entry.1 ∷ [] } → AreBooks n (with_rows old (take (k + 1) handles)) (slice_set books entry.0.0 new)
  handed_over new made = record {
    as_many = length-set books entry.0.0 new ∙ are.as_many;
    each = λ i inside. at i inside (eqb entry.0.0 i) refl;
  } where
    at : (i : ℕ) → i < n → (t : Bool) → eqb entry.0.0 i ≡ t → slice_index_or (slice_set books entry.0.0 new) i no_book ≡ with_rows old (take (k + 1) handles) i
    at i inside true here =
        ap (λ j. slice_index_or (slice_set books entry.0.0 new) j no_book) (sym (eqb-true entry.0.0 i here))
        ∙ get_or-set_same books entry.0.0 new no_book there
        ∙ made
        ∙ ap (λ (b : Book). record b { rows = b.rows ++ entry.1 ∷ [] }) book_is
        ∙ ap (λ rows. record (slice_index_or old entry.0.0 no_book) { rows = rows }) (sym (grown entry.0.0 ∙ more_on entry entry.0.0 (take k handles) (eq-eqb entry.0.0 entry.0.0 refl)))
        ∙ ap (λ j. with_rows old (take (k + 1) handles) j) (eqb-true entry.0.0 i here)
    at i inside false here =
        get_or-set_other books entry.0.0 i new no_book (λ same. false≢true (sym here ∙ eq-eqb entry.0.0 i (sym same)))
        ∙ are.each i inside
        ∙ ap (λ rows. record (slice_index_or old i no_book) { rows = rows }) (sym (grown i ∙ more_off entry i (take k handles) here))

-- a book behind so many others
pub book_behind : (n : ℕ) (told more : ℕ → Book) (books : List Book) (new : Book) → AreBooks n told books → ((i : ℕ) → i < n → more i ≡ told i) → new ≡ more n → AreBooks (n + 1) more (books ++ new ∷ [])
book_behind n told more books new are same is = record {
  as_many = length_push books new ∙ ap (λ k. k + 1) are.as_many;
  each = λ i within. at i within (cases_order i n);
} where
  at : (i : ℕ) → i < n + 1 → (i ≡ n) ⊎ ((i < n) ⊎ (n < i)) → slice_index_or (books ++ new ∷ []) i no_book ≡ more i
  at i within (inr (inl below)) = get_or_append_left books (new ∷ []) no_book i (omega (arith, are.as_many)) ∙ are.each i below ∙ sym (same i below)
  at i within (inl last) = ap (λ j. slice_index_or (books ++ new ∷ []) j no_book) last ∙ get_or_at books new [] no_book n are.as_many ∙ is ∙ ap more (sym last)
  at i within (inr (inr above)) = absurd (omega arith)

-- the events of one more rail
pub blank_behind : (holds : List Bool) (votes : List ℕ) (events : List (List Event)) (list : List Event) (suspended : Bool) (books : List Book) (new : Book)
    → AreBooks (length events) (blank holds votes events suspended) books
    → new ≡ record { rows = []; held = slice_index_or holds (length events) false; votes = slice_index votes (length events); events = list; suspended = suspended }
    → AreBooks (length (events ++ list ∷ [])) (blank holds votes (events ++ list ∷ []) suspended) (books ++ new ∷ [])
blank_behind holds votes events list suspended books new are is =
    subst (λ (n : ℕ). AreBooks n (blank holds votes (events ++ list ∷ []) suspended) (books ++ new ∷ [])) (sym (length_push events list))
    (book_behind (length events) (blank holds votes events suspended) (blank holds votes (events ++ list ∷ []) suspended) books new are
    (λ i within. ap (λ es. record (blank holds votes events suspended i) { events = es }) (get_or_append_left events (list ∷ []) [] i within))
    (is ∙ ap (λ es. record (blank holds votes events suspended (length events)) { events = es }) (sym (get_or_at events list [] [] (length events) refl))))
