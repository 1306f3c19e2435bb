-- The handles of a plain board with a new one, and without one: their rows, rail by rail, and where each name is open.
use Rattle.std.proofs.Common.{◌≡◌, ◌≢◌, ℕ, ◌+◌, ◌-◌, ◌==◌, Bool, true, false, cond, not, List, [], ◌∷◌, ◌++◌, Some, None, refl, sym, ap, ◌∙◌, arith, map, filter, find, length, remove, sum_by, All, AllPairs}
use Rattle.std.specs.Prelude.{nat_le, nat_lt}
use Rattle.std.proofs.lemmas.Bool.{eq-eqb, eqb-true, false_from_ne_true, leb-true, leb-false, lt-ltb, le-ltb, lt-leb, le-leb}
use Rattle.std.proofs.lemmas.List.{append-nil, map-append}
use Rattle.std.proofs.lemmas.List.Elements.{All-head, All-tail, filter-append}
use Rattle.std.proofs.lemmas.List.Folds.{find-append}
use Rattle.std.proofs.lemmas.List.Edits.{remove-append_right}
use Rattle.std.proofs.lemmas.List.Sums.{sum_by-append, sum_by-cons}
use Rattle.use_counts.specs.declared.handle_row.HandleRow.{HandleRow}
use Rattle.plain_board.specs.Handles.{Entry, count_own, is_own, open_of, rows_on, with_open, without_open}
use Rattle.plain_board.specs.Inv.{StandApart}
use Rattle.plain_board.proofs.OwnHandle.{pairs_first, pairs_rest}
use Rattle.rail_ops.proofs.OneRow.{Between, at, split}

-- what passes none is left out, and what passes all stays
none_pass : {X : Type 0} (p : X → Bool) (xs : List X) → All (λ x. p x ≡ false) xs → filter p xs ≡ []
none_pass p [] none = refl
none_pass p (x ∷ xs) none =
    let first : p x ≡ false = All-head (λ y. p y ≡ false) x xs none in
    rw first (none_pass p xs (All-tail (λ y. p y ≡ false) x xs none))

-- a list that is sorted by a test is what passes it, and then what fails it
sorted_parts : {X : Type 0} (p q : X → Bool) → ((x : X) → q x ≡ not (p x)) → (xs : List X) → AllPairs (λ a b. p a ≡ false → p b ≡ false) xs → filter p xs ++ filter q xs ≡ xs
sorted_parts p q other [] sorted = refl
sorted_parts p q other (x ∷ xs) sorted = by (p x) refl (sorted_parts p q other xs (pairs_rest (λ a b. p a ≡ false → p b ≡ false) x xs sorted)) where
  by : (t : Bool) → p x ≡ t → filter p xs ++ filter q xs ≡ xs → cond t (x ∷ filter p xs) (filter p xs) ++ cond (q x) (x ∷ filter q xs) (filter q xs) ≡ x ∷ xs
  by true is rest = let fails : q x ≡ false = other x ∙ ap not is in rw fails (ap (λ ys. x ∷ ys) rest)
  by false is rest =
      let passes : q x ≡ true = other x ∙ ap not is in
      let none : filter p xs ≡ [] = none_pass p xs (λ k d within. pairs_first (λ a b. p a ≡ false → p b ≡ false) x xs sorted k d within is) in
      rw (passes, none) (ap (λ ys. x ∷ ys) (ap (λ ys. ys ++ filter q xs) (sym none) ∙ rest))

-- the handles up to a rail, and those beyond it
abbrev upto : ℕ → List Entry → List Entry
upto r handles = filter (λ (entry : Entry). nat_le entry.0.0 r) handles

abbrev beyond : ℕ → List Entry → List Entry
beyond r handles = filter (λ (entry : Entry). nat_lt r entry.0.0) handles

past : (r k : ℕ) → nat_lt r k ≡ not (nat_le k r)
past r k = by (nat_le k r) refl where
  by : (t : Bool) → nat_le k r ≡ t → nat_lt r k ≡ not t
  by true is = le-ltb r k (leb-true k r is)
  by false is = lt-ltb r k (leb-false k r is)

in_two : (r : ℕ) (handles : List Entry) → AllPairs StandApart handles → upto r handles ++ beyond r handles ≡ handles
in_two r handles apart =
    sorted_parts (λ (entry : Entry). nat_le entry.0.0 r) (λ (entry : Entry). nat_lt r entry.0.0) (λ entry. past r entry.0.0) handles
    (λ i j d before within far. lt-leb _ _ (let pair = apart i j d before within in omega (arith, pair.rails, leb-false _ _ far)))

-- the rows of a rail among handles that are chosen by their rail
rows_chosen : (q : ℕ → Bool) (i : ℕ) (handles : List Entry) → rows_on (filter (λ (entry : Entry). q entry.0.0) handles) i ≡ cond (q i) (rows_on handles i) []
rows_chosen q i [] = by (q i) where
  by : (t : Bool) → ◌≡◌ {A = List HandleRow} [] (cond t [] [])
  by true = refl
  by false = refl
rows_chosen q i (x ∷ rest) = by (x.0.0 == i) refl (rows_chosen q i rest) where
  here : (t : Bool) → q i ≡ t → x.0.0 ≡ i → rows_on (filter (λ (entry : Entry). q entry.0.0) rest) i ≡ cond t (rows_on rest i) []
      → rows_on (cond (q x.0.0) (x ∷ filter (λ (entry : Entry). q entry.0.0) rest) (filter (λ (entry : Entry). q entry.0.0) rest)) i ≡ cond t (x.1 ∷ rows_on rest i) []
  here true is same further = let chosen : q x.0.0 ≡ true = ap q same ∙ is in let own : (x.0.0 == i) ≡ true = eq-eqb x.0.0 i same in rw (chosen, own) (ap (λ rows. x.1 ∷ rows) further)
  here false is same further = let left : q x.0.0 ≡ false = ap q same ∙ is in rw left further

  away : (t : Bool) → (x.0.0 == i) ≡ false → rows_on (filter (λ (entry : Entry). q entry.0.0) rest) i ≡ cond (q i) (rows_on rest i) []
      → rows_on (cond t (x ∷ filter (λ (entry : Entry). q entry.0.0) rest) (filter (λ (entry : Entry). q entry.0.0) rest)) i ≡ cond (q i) (rows_on rest i) []
  away true is further = rw is further
  away false is further = further

  by : (t : Bool) → (x.0.0 == i) ≡ t → rows_on (filter (λ (entry : Entry). q entry.0.0) rest) i ≡ cond (q i) (rows_on rest i) []
      → rows_on (filter (λ (entry : Entry). q entry.0.0) (x ∷ rest)) i ≡ cond (q i) (map (λ (e : Entry). e.1) (cond t (x ∷ filter (λ (e : Entry). e.0.0 == i) rest) (filter (λ (e : Entry). e.0.0 == i) rest))) []
  by true is further = here (q i) refl (eqb-true x.0.0 i is) further
  by false is further = away (q x.0.0) is further

rows_joined : (first second : List Entry) (i : ℕ) → rows_on (first ++ second) i ≡ rows_on first i ++ rows_on second i
rows_joined first second i =
    ap (map (λ (e : Entry). e.1)) (filter-append (λ (e : Entry). e.0.0 == i) first second)
    ∙ map-append (λ (e : Entry). e.1) (filter (λ (e : Entry). e.0.0 == i) first) (filter (λ (e : Entry). e.0.0 == i) second)

-- another element between two lists isn't found by a test that it fails
find_past : {X : Type 0} (p : X → Bool) (front : List X) (x : X) (back : List X) → p x ≡ false → find p (front ++ x ∷ back) ≡ find p (front ++ back)
find_past p [] x back fails = rw fails refl
find_past p (y ∷ front) x back fails = by (p y) (find_past p front x back fails) where
  by : (t : Bool) → find p (front ++ x ∷ back) ≡ find p (front ++ back) → cond t (Some y) (find p (front ++ x ∷ back)) ≡ cond t (Some y) (find p (front ++ back))
  by true further = refl
  by false further = further

find_none : {X : Type 0} (p : X → Bool) (xs : List X) → All (λ x. p x ≡ false) xs → find p xs ≡ None
find_none p [] none = refl
find_none p (x ∷ xs) none =
    let first : p x ≡ false = All-head (λ y. p y ≡ false) x xs none in
    rw first (find_none p xs (All-tail (λ y. p y ≡ false) x xs none))

find_here : {X : Type 0} (p : X → Bool) (front : List X) (x : X) (back : List X) → find p (front ++ back) ≡ None → p x ≡ true → find p (front ++ x ∷ back) ≡ Some x
find_here p [] x back none passes = rw passes refl
find_here p (y ∷ front) x back none passes = by (p y) none (find_here p front x back) where
  by : (t : Bool) → cond t (Some y) (find p (front ++ back)) ≡ None → (find p (front ++ back) ≡ None → p x ≡ true → find p (front ++ x ∷ back) ≡ Some x) → cond t (Some y) (find p (front ++ x ∷ back)) ≡ Some x
  by true none further = absurd (cc)
  by false none further = further none passes

sum_between : {X : Type 0} (f : X → ℕ) (front : List X) (x : X) (back : List X) → sum_by f (front ++ x ∷ back) ≡ sum_by f (front ++ back) + f x
sum_between f front x back = omega (arith, sum_by-append f front (x ∷ back), sum_by-cons f x back, sum_by-append f front back)

-- a new handle
module _ (handles : List Entry) (apart : AllPairs StandApart handles) (new : Entry) where
  abbrev lower : List Entry
  lower = upto new.0.0 handles

  abbrev upper : List Entry
  upper = beyond new.0.0 handles

  two : lower ++ upper ≡ handles
  two = in_two new.0.0 handles apart

  rows_parts : (i : ℕ) → rows_on (with_open handles new) i ≡ cond (nat_le i new.0.0) (rows_on handles i) [] ++ rows_on (new ∷ upper) i
  rows_parts i =
      rows_joined lower (new ∷ upper) i
      ∙ ap (λ rows. rows ++ rows_on (new ∷ upper) i) (rows_chosen (λ k. nat_le k new.0.0) i handles)

  upper_rows : (i : ℕ) → rows_on upper i ≡ cond (nat_lt new.0.0 i) (rows_on handles i) []
  upper_rows i = rows_chosen (λ k. nat_lt new.0.0 k) i handles

  -- stands last among those of its rail
  pub rows_new : rows_on (with_open handles new) new.0.0 ≡ rows_on handles new.0.0 ++ new.1 ∷ []
  rows_new =
      let own : (new.0.0 == new.0.0) ≡ true = eq-eqb new.0.0 new.0.0 refl in
      let low : nat_le new.0.0 new.0.0 ≡ true = le-leb new.0.0 new.0.0 (omega arith) in
      let none : nat_lt new.0.0 new.0.0 ≡ false = le-ltb new.0.0 new.0.0 (omega arith) in
      let last : rows_on (new ∷ upper) new.0.0 ≡ new.1 ∷ [] = rw own (ap (λ rows. new.1 ∷ rows) (upper_rows new.0.0 ∙ ap (λ t. cond t (rows_on handles new.0.0) []) none)) in
      rows_parts new.0.0 ∙ ap (λ t. cond t (rows_on handles new.0.0) [] ++ rows_on (new ∷ upper) new.0.0) low ∙ ap (λ rows. rows_on handles new.0.0 ++ rows) last

  -- and the others are as they were
  pub rows_others : (i : ℕ) → new.0.0 ≢ i → rows_on (with_open handles new) i ≡ rows_on handles i
  rows_others i away =
      rows_parts i ∙ ap (λ rows. cond (nat_le i new.0.0) (rows_on handles i) [] ++ rows) (rw other (upper_rows i)) ∙ by (nat_le i new.0.0) refl
    where
      other : (new.0.0 == i) ≡ false
      other = false_from_ne_true (new.0.0 == i) (λ same. absurd (away (eqb-true new.0.0 i same)))

      by : (t : Bool) → nat_le i new.0.0 ≡ t → cond t (rows_on handles i) [] ++ cond (nat_lt new.0.0 i) (rows_on handles i) [] ≡ rows_on handles i
      by true is =
          let none : nat_lt new.0.0 i ≡ false = le-ltb new.0.0 i (leb-true i new.0.0 is) in
          rw none (append-nil (rows_on handles i))
      by false is =
          let over : nat_lt new.0.0 i ≡ true = lt-ltb new.0.0 i (leb-false i new.0.0 is) in
          rw over refl

  -- a name that it isn't of is open where it was
  pub opened_other : (worker : ℕ) (name : List ℕ) → is_own worker name new ≡ false → open_of (with_open handles new) worker name ≡ open_of handles worker name
  opened_other worker name other = find_past (is_own worker name) lower new upper other ∙ ap (find (is_own worker name)) two

  -- and its own is open on its rail
  pub opened_own : (worker : ℕ) (name : List ℕ) → open_of handles worker name ≡ None → is_own worker name new ≡ true → open_of (with_open handles new) worker name ≡ Some new
  opened_own worker name none own = find_here (is_own worker name) lower new upper (ap (find (is_own worker name)) two ∙ none) own

  pub opened_count : (worker : ℕ) → count_own (with_open handles new) worker ≡ count_own handles worker + cond (new.1.worker == worker) 1 0
  opened_count worker =
      sum_between (λ (e : Entry). cond (e.1.worker == worker) 1 0) lower new upper ∙ ap (λ entries. count_own entries worker + cond (new.1.worker == worker) 1 0) two

all_pass : {X : Type 0} (p : X → Bool) (xs : List X) → All (λ x. p x ≡ true) xs → filter p xs ≡ xs
all_pass p [] all = refl
all_pass p (x ∷ xs) all =
    let first : p x ≡ true = All-head (λ y. p y ≡ true) x xs all in
    rw first (ap (λ ys. x ∷ ys) (all_pass p xs (All-tail (λ y. p y ≡ true) x xs all)))

-- a handle less
module _ (worker : ℕ) (name : List ℕ) (handles : List Entry) (entry : Entry) (apart : AllPairs StandApart handles) (is_open : open_of handles worker name ≡ Some entry) where
  abbrev parts : Between worker name handles entry
  parts = split worker name handles entry apart is_open

  others : (entries : List Entry) → All (λ x. is_own worker name x ≡ false) entries → without_open entries worker name ≡ entries
  others entries none = all_pass (λ x. not (is_own worker name x)) entries (λ k d within. ap not (none k d within))

  -- the handles are those before it and those behind it
  left : without_open handles worker name ≡ parts.front ++ parts.back
  left =
      ap (λ entries. without_open entries worker name) parts.are
      ∙ filter-append (λ x. not (is_own worker name x)) parts.front (entry ∷ parts.back)
      ∙ ap (λ entries. entries ++ without_open (entry ∷ parts.back) worker name) (others parts.front parts.none_before)
      ∙ ap (λ (t : Bool). parts.front ++ cond (not t) (entry ∷ without_open parts.back worker name) (without_open parts.back worker name)) parts.own
      ∙ ap (λ entries. parts.front ++ entries) (others parts.back parts.none_behind)

  rows_left : (i : ℕ) → rows_on (without_open handles worker name) i ≡ rows_on parts.front i ++ rows_on parts.back i
  rows_left i = ap (λ entries. rows_on entries i) left ∙ rows_joined parts.front parts.back i

  rows_were : (i : ℕ) → rows_on handles i ≡ rows_on parts.front i ++ rows_on (entry ∷ parts.back) i
  rows_were i = ap (λ entries. rows_on entries i) parts.are ∙ rows_joined parts.front (entry ∷ parts.back) i

  -- its row is gone from those of its rail
  pub rows_without : rows_on (without_open handles worker name) entry.0.0 ≡ remove (rows_on handles entry.0.0) (at worker name handles entry apart is_open)
  rows_without =
      let own : (entry.0.0 == entry.0.0) ≡ true = eq-eqb entry.0.0 entry.0.0 refl in
      let here : rows_on (entry ∷ parts.back) entry.0.0 ≡ entry.1 ∷ rows_on parts.back entry.0.0 = rw own refl in
      let from : (n : ℕ) → n ≡ 0 → remove (entry.1 ∷ rows_on parts.back entry.0.0) n ≡ rows_on parts.back entry.0.0 = λ n is. ap (remove (entry.1 ∷ rows_on parts.back entry.0.0)) is in
      rows_left entry.0.0
      ∙ ap (λ rows. rows_on parts.front entry.0.0 ++ rows) (sym (from (length (rows_on parts.front entry.0.0) - length (rows_on parts.front entry.0.0)) (omega arith)))
      ∙ sym (remove-append_right (rows_on parts.front entry.0.0) (entry.1 ∷ rows_on parts.back entry.0.0) (length (rows_on parts.front entry.0.0)) (length (rows_on parts.front entry.0.0)) refl (omega arith))
      ∙ ap (λ rows. remove (rows_on parts.front entry.0.0 ++ rows) (length (rows_on parts.front entry.0.0))) (sym here)
      ∙ ap (λ rows. remove rows (length (rows_on parts.front entry.0.0))) (sym (rows_were entry.0.0))

  -- and the others are as they were
  pub rows_without_others : (i : ℕ) → entry.0.0 ≢ i → rows_on (without_open handles worker name) i ≡ rows_on handles i
  rows_without_others i away =
      let other : (entry.0.0 == i) ≡ false = false_from_ne_true (entry.0.0 == i) (λ same. absurd (away (eqb-true entry.0.0 i same))) in
      rows_left i ∙ sym (rows_were i ∙ ap (λ rows. rows_on parts.front i ++ rows) (rw other refl))

  -- its name is open no more
  pub closed_own : open_of (without_open handles worker name) worker name ≡ None
  closed_own =
      ap (find (is_own worker name)) left ∙ find-append (is_own worker name) parts.front parts.back
      ∙ rw (find_none (is_own worker name) parts.front parts.none_before) (find_none (is_own worker name) parts.back parts.none_behind)

  -- and each other one is open where it was
  pub closed_other : (other : ℕ) (text : List ℕ) → is_own other text entry ≡ false → open_of (without_open handles worker name) other text ≡ open_of handles other text
  closed_other other text away =
      ap (find (is_own other text)) left ∙ sym (ap (find (is_own other text)) parts.are ∙ find_past (is_own other text) parts.front entry parts.back away)

  pub closed_count : (other : ℕ) → count_own (without_open handles worker name) other + cond (entry.1.worker == other) 1 0 ≡ count_own handles other
  closed_count other =
      ap (λ entries. count_own entries other + cond (entry.1.worker == other) 1 0) left
      ∙ sym (ap (λ entries. count_own entries other) parts.are ∙ sum_between (λ (e : Entry). cond (e.1.worker == other) 1 0) parts.front entry parts.back)
