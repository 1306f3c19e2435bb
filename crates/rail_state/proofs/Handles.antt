-- The handles of a rail and what they ask, as handles come, change and go.
use Rattle.std.proofs.Common.{◌≡◌, ◌↔◌, ℕ, zero, suc, ◌<◌, Bool, true, false, cond, not, List, [], ◌∷◌, ◌++◌, Option, Some, None, IsSome, refl, sym, ap, ◌∙◌, subst, inl, inr, arith, length, get_or, remove, slice_get, slice_set, take, filter_map, find, option_map, Contains, All, eq-eqb}
use Rattle.std.specs.List.{cons_option}
use Rattle.std.proofs.lemmas.Bool.{and_parts, and_from, eqb-true, false_from_ne_true, false≢true, cases_order}
use Rattle.std.proofs.lemmas.List.{get_or-take, get_or_default, length-set, length-take}
use Rattle.std.proofs.lemmas.List.Elements.{Contains-append_left, Contains-append_cases, Contains-push, Contains-push_cases, filter_map-append}
use Rattle.std.proofs.lemmas.List.Quantifiers.{all_pairs_push, all_pairs_remove}
use Rattle.std.proofs.lemmas.Option.{same_Some, slice_get_within, get_or_from_slice_get}
use Rattle.std.proofs.lemmas.Slice.Eq.{bytes_eq-Decides}
use Rattle.request_set.specs.Requests.{Asking, is_asked_by, without, with_asked, asked_by, meets, meets_all}
use Rattle.request_set.proofs.Places.{filter_none, filter_one}
use Rattle.use_counts.specs.declared.handle_row.HandleRow.{HandleRow}
use Rattle.use_counts.specs.Uses.{is_row_of}
use Rattle.rail_state.specs.Requests.{asking_for, asking_of, meets_rows, others_than, DifferInName}
use Rattle.rail_state.specs.Inside.{AreOf, AreKept}
use Rattle.rail_state.proofs.Members.{Contains-filter, Contains-from_filter, Contains-set, Contains-from_set, Contains-filter_map, Contains-from_filter_map, filter_map-set_same, list_all-members, IsSome-find}

-- what a handle is told by
abbrev Name : Type 0
Name = ℕ × List ℕ

abbrev name_of : HandleRow → Name
name_of row = (row.worker, row.handle.bytes)

abbrev apart_by_name : Name → HandleRow → Type 0
apart_by_name name row = is_row_of name.0 name.1 row ≡ false

its_name : (worker : ℕ) (name : List ℕ) (row : HandleRow) → is_row_of worker name row ≡ true → (row.worker ≡ worker) × (row.handle.bytes ≡ name)
its_name worker name row is =
    let both = and_parts _ _ is in
    (eqb-true row.worker worker both.0, (bytes_eq-Decides row.handle.bytes name).0 both.1)

of_its_name : (worker : ℕ) (name : List ℕ) (row : HandleRow) → row.worker ≡ worker → row.handle.bytes ≡ name → is_row_of worker name row ≡ true
of_its_name worker name row same_worker same_name = and_from _ _ (eq-eqb row.worker worker same_worker) ((bytes_eq-Decides row.handle.bytes name).1 same_name)

-- two handles differ either way
differ_back : (one other : HandleRow) → is_row_of one.worker one.handle.bytes other ≡ false → is_row_of other.worker other.handle.bytes one ≡ false
differ_back one other apart =
    false_from_ne_true (is_row_of other.worker other.handle.bytes one)
    (λ same. let who = its_name other.worker other.handle.bytes one same in false≢true (sym apart ∙ of_its_name one.worker one.handle.bytes other (sym who.0) (sym who.1)))

-- all but one are the others than it
others-remove : (rows : List HandleRow) (at : ℕ) (row : HandleRow) → DifferInName rows → slice_get rows at ≡ Some row → others_than row.worker row.handle.bytes rows ≡ remove rows at
others-remove rows at row differ is =
    let within = slice_get_within rows at row is in
    let here = λ (d : HandleRow). get_or_from_slice_get rows at row d is in
    filter_one (is_row_of row.worker row.handle.bytes) rows at within
    (λ k d inside apart. elim (cases_order k at) [
      | inl same ↦ absurd (apart same)
      | inr (inl before) ↦ differ_back (get_or rows k d) row (subst (λ (other : HandleRow). is_row_of (get_or rows k d).worker (get_or rows k d).handle.bytes other ≡ false) (here d) (differ k at d before within))
      | inr (inr after) ↦ subst (λ (one : HandleRow). is_row_of one.worker one.handle.bytes (get_or rows k d) ≡ false) (here d) (differ at k d after inside)
    ])
    (λ d. subst (λ (other : HandleRow). is_row_of row.worker row.handle.bytes other ≡ true) (sym (here d)) (of_its_name row.worker row.handle.bytes row refl refl))

-- where none is of a name, all are others
others-new : (rows : List HandleRow) (row : HandleRow) → All (λ other. is_row_of other.worker other.handle.bytes row ≡ false) rows → others_than row.worker row.handle.bytes rows ≡ rows
others-new rows row new = filter_none (is_row_of row.worker row.handle.bytes) rows (λ k d within. differ_back (get_or rows k d) row (new k d within))

-- what the others than one ask is all that is asked without it
without-step : (worker : ℕ) (name : List ℕ) (row : HandleRow) (request : Option (ℕ × ℕ)) (asked : List Asking) (others : List HandleRow) (t : Bool)
    → is_row_of worker name row ≡ t → without worker name asked ≡ filter_map asking_of others
    → without worker name (cons_option (asking_for row request) asked) ≡ filter_map asking_of (cond (not t) (record row { request = request } ∷ others) others)
without-step worker name row None asked others true is ih = ih
without-step worker name row None asked others false is ih = ih
without-step worker name row (Some request) asked others true is ih = rw is ih
without-step worker name row (Some request) asked others false is ih = rw is (ap (λ rest. record { worker = row.worker; name = row.handle.bytes; least = request.0; greatest = request.1 } ∷ rest) ih)

without-rows : (worker : ℕ) (name : List ℕ) (rows : List HandleRow) → without worker name (filter_map asking_of rows) ≡ filter_map asking_of (others_than worker name rows)
without-rows worker name [] = refl
without-rows worker name (row ∷ rows) =
    without-step worker name row row.request (filter_map asking_of rows) (others_than worker name rows) (is_row_of worker name row) refl (without-rows worker name rows)

of_others : (worker : ℕ) (name : List ℕ) (rows : List HandleRow) (asked : List Asking) → AreOf rows asked → AreOf (others_than worker name rows) (without worker name asked)
of_others worker name rows asked theirs =
    let test : Asking → Bool = λ asking. not (is_asked_by worker name asking) in
    subst (λ (all : List Asking). (asking : Asking) → Contains (without worker name asked) asking ↔ Contains all asking) (without-rows worker name rows)
    (λ asking. (
      λ there. let both = Contains-from_filter test asked asking there in Contains-filter test (filter_map asking_of rows) asking ((theirs asking).0 both.0) both.1,
      λ there. let both = Contains-from_filter test (filter_map asking_of rows) asking there in Contains-filter test asked asking ((theirs asking).1 both.0) both.1,
    ))

-- a value meets what the others ask exactly where it meets all that is asked without the handle
pub meets-others : (worker : ℕ) (name : List ℕ) (rows : List HandleRow) (asked : List Asking) (uv : ℕ) → AreKept rows asked → meets_all (without worker name asked) uv ≡ meets_rows (others_than worker name rows) uv
meets-others worker name rows asked uv kept =
    list_all-members (meets uv) (without worker name asked) (filter_map asking_of (others_than worker name rows)) (of_others worker name rows asked kept.theirs)

-- a handle behind others, that asks and that doesn't
pushed : (rows : List HandleRow) (row : HandleRow) (given : Option Asking) → asking_of row ≡ given → filter_map asking_of (rows ++ row ∷ []) ≡ filter_map asking_of rows ++ cons_option given []
pushed rows row given is = filter_map-append asking_of rows (row ∷ []) ∙ ap (λ (o : Option Asking). filter_map asking_of rows ++ cons_option o []) is

of_push : (rows : List HandleRow) (row : HandleRow) (asked : List Asking) (asking : Asking) → asking_of row ≡ Some asking → AreOf rows asked → AreOf (rows ++ row ∷ []) (asked ++ asking ∷ [])
of_push rows row asked anew is theirs =
    subst (λ (all : List Asking). (asking : Asking) → Contains (asked ++ anew ∷ []) asking ↔ Contains all asking) (sym (pushed rows row (Some anew) is))
    (λ asking. (λ there. moved asked (filter_map asking_of rows) asking (theirs asking).0 there, λ there. moved (filter_map asking_of rows) asked asking (theirs asking).1 there)) where
      moved : (xs ys : List Asking) (asking : Asking) → (Contains xs asking → Contains ys asking) → Contains (xs ++ anew ∷ []) asking → Contains (ys ++ anew ∷ []) asking
      moved xs ys asking old there =
          elim (Contains-push_cases xs anew asking there) [
            | inl before ↦ Contains-append_left ys (anew ∷ []) asking (old before)
            | inr same ↦ subst (Contains (ys ++ anew ∷ [])) same (Contains-push ys anew)
          ]

of_push_quiet : (rows : List HandleRow) (row : HandleRow) (asked : List Asking) → asking_of row ≡ None → AreOf rows asked → AreOf (rows ++ row ∷ []) asked
of_push_quiet rows row asked is theirs =
    subst (λ (all : List Asking). (asking : Asking) → Contains asked asking ↔ Contains all asking) (sym (pushed rows row None is))
    (λ asking. (
      λ there. Contains-append_left (filter_map asking_of rows) [] asking ((theirs asking).0 there),
      λ there. elim (Contains-append_cases (filter_map asking_of rows) [] asking there) [
        | inl old ↦ (theirs asking).1 old
        | inr none ↦ absurd (omega (arith, none.1))
      ],
    ))

-- the place of a handle matters to no request
among : (xs ys : List HandleRow) (asking : Asking) → ((row : HandleRow) → Contains xs row → Contains ys row) → Contains (filter_map asking_of xs) asking → Contains (filter_map asking_of ys) asking
among xs ys asking there asked =
    let by = Contains-from_filter_map asking_of xs asking asked in
    Contains-filter_map asking_of ys by.0 asking (there by.0 by.1) by.2

of_set : (rows : List HandleRow) (at : ℕ) (row : HandleRow) (asked : List Asking) → at < length rows → AreOf (remove rows at ++ row ∷ []) asked → AreOf (slice_set rows at row) asked
of_set rows at row asked within theirs asking = (
  λ there. among (remove rows at ++ row ∷ []) (slice_set rows at row) asking (λ one. Contains-set rows at row one within) ((theirs asking).0 there),
  λ there. (theirs asking).1 (among (slice_set rows at row) (remove rows at ++ row ∷ []) asking (λ one. Contains-from_set rows at row one) there),
)

-- a handle of the same name in the place of one
name-set : (rows : List HandleRow) (at : ℕ) (old new : HandleRow) → slice_get rows at ≡ Some old → name_of new ≡ name_of old → (k : ℕ) (d : HandleRow) → name_of (get_or (slice_set rows at new) k d) ≡ name_of (get_or rows k d)
name-set [] at old new is same k d = refl
name-set (row ∷ rows) zero old new is same zero d = same ∙ ap name_of (sym (same_Some row old is))
name-set (row ∷ rows) zero old new is same (suc k) d = refl
name-set (row ∷ rows) (suc at) old new is same zero d = refl
name-set (row ∷ rows) (suc at) old new is same (suc k) d = name-set rows at old new is same k d

abbrev differ_by_name : Name → Name → Type 0
differ_by_name one other = apart_by_name one (record { worker = other.0; handle = record { bytes = other.1; spare = [] }; enables = 0; request = None; load = 0; cursor = None; exclusive = false })

apart-set : (rows : List HandleRow) (at : ℕ) (old new : HandleRow) → slice_get rows at ≡ Some old → name_of new ≡ name_of old → DifferInName rows → DifferInName (slice_set rows at new)
apart-set rows at old new is same apart i j d before within =
    let name = λ (k : ℕ). sym (name-set rows at old new is same k d) in
    subst (λ (one : Name). differ_by_name one (name_of (get_or (slice_set rows at new) j d))) (name i)
    (subst (differ_by_name (name_of (get_or rows i d))) (name j) (apart i j d before (omega (arith, within, length-set rows at new))))

-- what is kept, of no handles
pub kept-none : AreKept [] []
kept-none = record { apart = λ i j d before within. absurd (omega arith); theirs = λ asking. (λ there. there, λ there. there) }

apart-push : (rows : List HandleRow) (row : HandleRow) → DifferInName rows → All (λ other. is_row_of other.worker other.handle.bytes row ≡ false) rows → DifferInName (rows ++ row ∷ [])
apart-push rows row apart new = all_pairs_push (λ one other. is_row_of one.worker one.handle.bytes other ≡ false) rows row apart new

-- with one more, that asks nothing
pub kept-push_quiet : (rows : List HandleRow) (row : HandleRow) (asked : List Asking)
    → row.request ≡ None → All (λ other. is_row_of other.worker other.handle.bytes row ≡ false) rows → AreKept rows asked → AreKept (rows ++ row ∷ []) asked
kept-push_quiet rows row asked is new kept =
    record { apart = apart-push rows row kept.apart new; theirs = of_push_quiet rows row asked (ap (asking_for row) is) kept.theirs }

-- with one more, that asks
pub kept-push : (rows : List HandleRow) (row : HandleRow) (asked : List Asking) (lo hi : ℕ)
    → row.request ≡ Some (lo, hi) → All (λ other. is_row_of other.worker other.handle.bytes row ≡ false) rows → AreKept rows asked
    → AreKept (rows ++ row ∷ []) (with_asked row.worker row.handle.bytes lo hi asked)
kept-push rows row asked lo hi is new kept =
    let worker = row.worker in
    let name = row.handle.bytes in
    record {
      apart = apart-push rows row kept.apart new;
      theirs =
          of_push rows row (without worker name asked) (record { worker = worker; name = name; least = lo; greatest = hi }) (ap (asking_for row) is)
          (subst (λ others. AreOf others (without worker name asked)) (others-new rows row new) (of_others worker name rows asked kept.theirs));
    }

-- without one
pub kept-remove : (rows : List HandleRow) (at : ℕ) (row : HandleRow) (asked : List Asking) → slice_get rows at ≡ Some row → AreKept rows asked → AreKept (remove rows at) (without row.worker row.handle.bytes asked)
kept-remove rows at row asked is kept =
    record {
      apart = all_pairs_remove (λ one other. is_row_of one.worker one.handle.bytes other ≡ false) rows at (slice_get_within rows at row is) kept.apart;
      theirs = subst (λ others. AreOf others (without row.worker row.handle.bytes asked)) (others-remove rows at row kept.apart is) (of_others row.worker row.handle.bytes rows asked kept.theirs);
    }

-- with another one of the same name and request in the place of one
pub kept-set_same : (rows : List HandleRow) (at : ℕ) (old new : HandleRow) (asked : List Asking)
    → slice_get rows at ≡ Some old → name_of new ≡ name_of old → asking_of new ≡ asking_of old → AreKept rows asked → AreKept (slice_set rows at new) asked
kept-set_same rows at old new asked is same asks kept =
    record {
      apart = apart-set rows at old new is same kept.apart;
      theirs = subst (λ (all : List Asking). (asking : Asking) → Contains asked asking ↔ Contains all asking) (sym (filter_map-set_same asking_of rows at old new is asks)) kept.theirs;
    }

-- with one that asks anew
pub kept-set_asking : (rows : List HandleRow) (at : ℕ) (row : HandleRow) (asked : List Asking) (lo hi : ℕ) → slice_get rows at ≡ Some row → AreKept rows asked
    → AreKept (slice_set rows at (record row { request = Some (lo, hi) })) (with_asked row.worker row.handle.bytes lo hi asked)
kept-set_asking rows at row asked lo hi is kept =
    let new : HandleRow = record row { request = Some (lo, hi) } in
    let left = kept-remove rows at row asked is kept in
    record {
      apart = apart-set rows at row new is refl kept.apart;
      theirs =
          of_set rows at new (with_asked row.worker row.handle.bytes lo hi asked) (slice_get_within rows at row is)
          (of_push (remove rows at) new (without row.worker row.handle.bytes asked) (record { worker = row.worker; name = row.handle.bytes; least = lo; greatest = hi }) refl left.theirs);
    }

-- with one that asks nothing any more
pub kept-set_quiet : (rows : List HandleRow) (at : ℕ) (row : HandleRow) (asked : List Asking) → slice_get rows at ≡ Some row → AreKept rows asked
    → AreKept (slice_set rows at (record row { request = None })) (without row.worker row.handle.bytes asked)
kept-set_quiet rows at row asked is kept =
    let new : HandleRow = record row { request = None } in
    let left = kept-remove rows at row asked is kept in
    record {
      apart = apart-set rows at row new is refl kept.apart;
      theirs = of_set rows at new (without row.worker row.handle.bytes asked) (slice_get_within rows at row is) (of_push_quiet (remove rows at) new (without row.worker row.handle.bytes asked) refl left.theirs);
    }

IsSome-map : {X Y : Type 0} (f : X → Y) (o : Option X) → IsSome o → IsSome (option_map f o)
IsSome-map f None some = some
IsSome-map f (Some x) some = refl

asks : (row : HandleRow) (request : Option (ℕ × ℕ)) → IsSome request → (asking : Asking) × (asking_for row request ≡ Some asking) × (is_asked_by row.worker row.handle.bytes asking ≡ true)
asks row None some = absurd (false≢true some)
asks row (Some request) some = (record { worker = row.worker; name = row.handle.bytes; least = request.0; greatest = request.1 }, refl, of_its_name row.worker row.handle.bytes row refl refl)

-- the request of a handle that asks is kept
pub asked-row : (rows : List HandleRow) (at : ℕ) (row : HandleRow) (asked : List Asking) → slice_get rows at ≡ Some row → IsSome row.request → AreKept rows asked → IsSome (asked_by row.worker row.handle.bytes asked)
asked-row rows at row asked is some kept =
    let its = asks row row.request some in
    let there : Contains rows row = (at, slice_get_within rows at row is, get_or_from_slice_get rows at row row is) in
    IsSome-map (λ (asking : Asking). (asking.least, asking.greatest)) (find (is_asked_by row.worker row.handle.bytes) asked)
    (IsSome-find (is_asked_by row.worker row.handle.bytes) asked its.0 ((kept.theirs its.0).1 (Contains-filter_map asking_of rows row its.0 there its.1)) its.2)

-- what stands at a place of a list
pub row_at : (rows : List HandleRow) (at : ℕ) → at < length rows → (row : HandleRow) × (slice_get rows at ≡ Some row)
row_at [] at within = absurd (omega (arith, within))
row_at (row ∷ rows) zero within = (row, refl)
row_at (row ∷ rows) (suc at) within = row_at rows at (omega (arith, within))

-- a handle is new to those before it
pub new-to_those_before : (rows : List HandleRow) (at : ℕ) (row : HandleRow) → DifferInName rows → at < length rows → row ≡ get_or rows at row → All (λ other. is_row_of other.worker other.handle.bytes row ≡ false) (take at rows)
new-to_those_before rows at row apart within is k d inside =
    let before : k < at = omega (arith, inside, length-take at rows) in
    subst (λ (other : HandleRow). is_row_of other.worker other.handle.bytes row ≡ false) (sym (get_or-take at rows k d before))
    (subst (λ (other : HandleRow). is_row_of (get_or rows k d).worker (get_or rows k d).handle.bytes other ≡ false) (get_or_default rows at d row within ∙ sym is) (apart k at d before within))

-- the last one goes
pub remove-last : (rows : List HandleRow) (row : HandleRow) (at : ℕ) → at ≡ length rows → remove (rows ++ row ∷ []) at ≡ rows
remove-last [] row zero is = refl
remove-last [] row (suc at) is = absurd (omega (arith, is))
remove-last (first ∷ rows) row zero is = absurd (omega (arith, is))
remove-last (first ∷ rows) row (suc at) is = ap (λ rest. first ∷ rest) (remove-last rows row at (omega (arith, is)))
