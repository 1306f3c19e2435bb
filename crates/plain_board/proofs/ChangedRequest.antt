-- The handles when a worker's handle asks anew: all but the request is as before.
use Rattle.std.proofs.Common.{◌≡◌, ℕ, ◌+◌, ◌<◌, Bool, true, false, not, cond, List, [], ◌∷◌, Option, refl, sym, ap, ◌∙◌, arith, map, length, get_or, sum_by, All, AllPairs}
use Rattle.std.specs.Prelude.{◌==◌, IfSome}
use Rattle.std.proofs.lemmas.Bool.{both_ways}
use Rattle.std.proofs.lemmas.List.{length-map, get_or-map}
use Rattle.std.proofs.lemmas.List.Elements.{All-nil, All-cons, All-head, All-tail, All-map, All-weaker}
use Rattle.std.proofs.lemmas.List.Sums.{sum_by-cons}
use Rattle.use_counts.specs.declared.handle_row.HandleRow.{HandleRow}
use Rattle.plain_board.specs.Handles.{Entry, is_own, count_own, rows_on, without_open, with_row}
use Rattle.plain_board.specs.Answer.{with_request}
use Rattle.plain_board.specs.Inv.{StandApart, ShareFairly}
use Rattle.plain_board.proofs.Requests.{adds, sum_by-rows, AsksOn}

pub AllPairs-map : {A : Type 0} (R : A → A → Type 0) (f : A → A) (xs : List A) → ((a b : A) → R a b → R (f a) (f b)) → AllPairs R xs → AllPairs R (map f xs)
AllPairs-map R f xs keeps all i j d before within =
    let short : j < length xs = omega (arith, length-map xs f) in
    let first = get_or-map f xs i d d (omega arith) in
    let second = get_or-map f xs j d d short in
    rw (first, second) (keeps (get_or xs i d) (get_or xs j d) (all i j d before short))

pub sum_by-map_same : {A : Type 0} (g : A → ℕ) (f : A → A) (xs : List A) → ((a : A) → g (f a) ≡ g a) → sum_by g (map f xs) ≡ sum_by g xs
sum_by-map_same g f [] same = refl
sum_by-map_same g f (x ∷ xs) same =
    sum_by-cons g (f x) (map f xs) ∙ ap (λ n. n + sum_by g (map f xs)) (same x) ∙ ap (λ n. g x + n) (sum_by-map_same g f xs same) ∙ sym (sum_by-cons g x xs)

-- the handle stands on rail r, if it is the worker's of this name
abbrev pub StandsOn : ℕ → List ℕ → ℕ → Entry → Type 0
StandsOn worker name r entry = is_own worker name entry ≡ true → entry.0.0 ≡ r

module _ (worker : ℕ) (name : List ℕ) (q : Option (ℕ × ℕ)) where
  -- a handle after that
  abbrev pub asks_anew : Entry → Entry
  asks_anew entry = cond (is_own worker name entry) (entry.0, with_request q entry.1) entry

  -- whatever doesn't read its request
  same_by : {A : Type 0} (f : Entry → A) (entry : Entry) (t : Bool) → f (entry.0, with_request q entry.1) ≡ f entry → f (cond t (entry.0, with_request q entry.1) entry) ≡ f entry
  same_by f entry true same = same
  same_by f entry false same = refl

  worker_same : (entry : Entry) → (asks_anew entry).1.worker ≡ entry.1.worker
  worker_same entry = same_by (λ e. e.1.worker) entry (is_own worker name entry) refl

  adds_same : (of_row : HandleRow → ℕ) → ((row : HandleRow) → of_row (with_request q row) ≡ of_row row) → (i : ℕ) (entry : Entry) → adds of_row i (asks_anew entry) ≡ adds of_row i entry
  adds_same of_row keeps i entry = same_by (adds of_row i) entry (is_own worker name entry) (ap (λ n. cond (entry.0.0 == i) n 0) (keeps entry.1))

  -- sums of rows that don't read requests
  pub sum_by-asks_anew : (of_row : HandleRow → ℕ) → ((row : HandleRow) → of_row (with_request q row) ≡ of_row row) → (i : ℕ) (handles : List Entry)
      → sum_by of_row (rows_on (with_row handles worker name (with_request q)) i) ≡ sum_by of_row (rows_on handles i)
  sum_by-asks_anew of_row keeps i handles =
      sum_by-rows of_row i (map asks_anew handles)
      ∙ sum_by-map_same (adds of_row i) asks_anew handles (adds_same of_row keeps i)
      ∙ sym (sum_by-rows of_row i handles)

  pub count_own-asks_anew : (handles : List Entry) (w : ℕ) → count_own (with_row handles worker name (with_request q)) w ≡ count_own handles w
  count_own-asks_anew handles w =
      sum_by-map_same (λ (entry : Entry). cond (entry.1.worker == w) 1 0) asks_anew handles (λ entry. ap (λ n. cond (n == w) 1 0) (worker_same entry))

  pub apart-asks_anew : (handles : List Entry) → AllPairs StandApart handles → AllPairs StandApart (with_row handles worker name (with_request q))
  apart-asks_anew handles all =
      AllPairs-map StandApart asks_anew handles
      (λ a b apart. by a b (is_own worker name a) (is_own worker name b) apart)
      all
    where
      by : (a b : Entry) (s t : Bool) → StandApart a b → StandApart (cond s (a.0, with_request q a.1) a) (cond t (b.0, with_request q b.1) b)
      by a b true true apart = record { rails = apart.rails; names = apart.names }
      by a b true false apart = record { rails = apart.rails; names = apart.names }
      by a b false true apart = record { rails = apart.rails; names = apart.names }
      by a b false false apart = apart

  pub alone-asks_anew : (handles : List Entry) → AllPairs ShareFairly handles → AllPairs ShareFairly (with_row handles worker name (with_request q))
  alone-asks_anew handles all =
      AllPairs-map ShareFairly asks_anew handles
      (λ a b fair. by a b (is_own worker name a) (is_own worker name b) fair)
      all
    where
      by : (a b : Entry) (s t : Bool) → ShareFairly a b → ShareFairly (cond s (a.0, with_request q a.1) a) (cond t (b.0, with_request q b.1) b)
      by a b true true fair = fair
      by a b true false fair = fair
      by a b false true fair = fair
      by a b false false fair = fair

  -- what holds of each handle whatever it asks
  pub opens-asks_anew : (P P' : Entry → Type 0) (handles : List Entry) → ((entry : Entry) → P entry → P' entry) → ((entry : Entry) → P entry → P' (entry.0, with_request q entry.1))
      → All P handles → All P' (with_row handles worker name (with_request q))
  opens-asks_anew P P' handles other own all =
      All-map P' asks_anew handles (All-weaker P (λ entry. P' (asks_anew entry)) (λ entry is. by entry (is_own worker name entry) is) handles all)
    where
      by : (entry : Entry) (t : Bool) → P entry → P' (cond t (entry.0, with_request q entry.1) entry)
      by entry true is = own entry is
      by entry false is = other entry is

  -- what is asked on a rail, where each handle's request is met, and on the own rail the new one
  pub asks-asks_anew : (P : ℕ × ℕ → Type 0) (i r : ℕ) (handles : List Entry) → All (StandsOn worker name r) handles → (i ≡ r → IfSome q P)
      → All (λ entry. is_own worker name entry ≡ false → AsksOn P i entry) handles → All (AsksOn P i) (with_row handles worker name (with_request q))
  asks-asks_anew P i r handles on own others =
      All-map (AsksOn P i) asks_anew handles
      (λ k d within. by (get_or handles k d) (is_own worker name (get_or handles k d)) refl (on k d within) (others k d within))
    where
      by : (entry : Entry) (t : Bool) → is_own worker name entry ≡ t → StandsOn worker name r entry → (is_own worker name entry ≡ false → AsksOn P i entry)
          → AsksOn P i (cond t (entry.0, with_request q entry.1) entry)
      by entry true is on other = λ here. own (sym here ∙ on is)
      by entry false is on other = other is

-- requests of the handles but for one
abbrev OtherAsks : (ℕ × ℕ → Type 0) → ℕ → ℕ → List ℕ → Entry → Type 0
OtherAsks P i worker name entry = is_own worker name entry ≡ false → AsksOn P i entry

without_first : (P : ℕ × ℕ → Type 0) (i worker : ℕ) (name : List ℕ) (entry : Entry) (others : List Entry) (t : Bool) → is_own worker name entry ≡ t
    → All (AsksOn P i) (cond (not t) (entry ∷ others) others) → OtherAsks P i worker name entry × All (AsksOn P i) others
without_first P i worker name entry others true is all = (λ other. absurd (both_ways _ other is), all)
without_first P i worker name entry others false is all = (λ other. All-head (AsksOn P i) entry others all, All-tail (AsksOn P i) entry others all)

-- what is asked without a handle is what each other handle asks
pub asks_without : (P : ℕ × ℕ → Type 0) (i worker : ℕ) (name : List ℕ) (handles : List Entry) → All (AsksOn P i) (without_open handles worker name)
    → All (λ entry. is_own worker name entry ≡ false → AsksOn P i entry) handles
asks_without P i worker name [] all = All-nil (OtherAsks P i worker name)
asks_without P i worker name (entry ∷ rest) all =
    let both = without_first P i worker name entry (without_open rest worker name) (is_own worker name entry) refl all in
    All-cons (OtherAsks P i worker name) entry rest both.0 (asks_without P i worker name rest both.1)
