-- What is asked on a rail, and what its handles add up to, handle by handle.
use Rattle.std.proofs.Common.{◌≡◌, ℕ, ◌+◌, Bool, true, false, cond, List, [], ◌∷◌, Option, Some, None, refl, sym, ap, ◌∙◌, arith, map, filter, filter_map, sum_by, All, subst}
use Rattle.std.specs.Prelude.{◌==◌, IfSome}
use Rattle.std.proofs.lemmas.Bool.{eqb-true, eq-eqb, both_ways}
use Rattle.std.proofs.lemmas.List.Elements.{All-nil, All-cons, All-head, All-tail}
use Rattle.std.proofs.lemmas.List.Sums.{sum_by-cons}
use Rattle.use_counts.specs.declared.handle_row.HandleRow.{HandleRow}
use Rattle.plain_board.specs.Handles.{Entry, rows_on}
use Rattle.plain_board.specs.Requests.{requests_on}

-- what a handle on rail i adds to a sum of its rows
abbrev pub adds : (HandleRow → ℕ) → ℕ → Entry → ℕ
adds of_row i entry = cond (entry.0.0 == i) (of_row entry.1) 0

sum_first : (of_row : HandleRow → ℕ) (b : Bool) (entry : Entry) (rest : List Entry) (n : ℕ) → sum_by of_row (map (λ (e : Entry). e.1) rest) ≡ n
    → sum_by of_row (map (λ (e : Entry). e.1) (cond b (entry ∷ rest) rest)) ≡ cond b (of_row entry.1) 0 + n
sum_first of_row true entry rest n is = sum_by-cons of_row entry.1 (map (λ e. e.1) rest) ∙ ap (λ m. of_row entry.1 + m) is
sum_first of_row false entry rest n is = is ∙ omega arith

-- the rows of a rail add up to what the handles add
pub sum_by-rows : (of_row : HandleRow → ℕ) (i : ℕ) (handles : List Entry) → sum_by of_row (rows_on handles i) ≡ sum_by (adds of_row i) handles
sum_by-rows of_row i [] = refl
sum_by-rows of_row i (entry ∷ rest) =
    sum_first of_row (entry.0.0 == i) entry (filter (λ e. e.0.0 == i) rest) (sum_by (adds of_row i) rest) (sum_by-rows of_row i rest)
    ∙ sym (sum_by-cons (adds of_row i) entry rest)

-- a handle's request, where it is on rail i and has one, passes
abbrev pub AsksOn : (ℕ × ℕ → Type 0) → ℕ → Entry → Type 0
AsksOn P i entry = entry.0.0 ≡ i → IfSome entry.1.request P

module _ (P : ℕ × ℕ → Type 0) (i : ℕ) where
  abbrev asked_by : List Entry → List (ℕ × ℕ)
  asked_by entries = filter_map (λ row. row.request) (map (λ (e : Entry). e.1) entries)

  to_first : (entry : Entry) (others : List Entry) (request : Option (ℕ × ℕ)) (t : Bool) → (entry.0.0 == i) ≡ t → entry.1.request ≡ request
      → AsksOn P i entry → All P (asked_by others) → All P (asked_by (cond t (entry ∷ others) others))
  to_first entry others request false at is asks all = all
  to_first entry others None true at is asks all = rw is all
  to_first entry others (Some request) true at is asks all =
      let passes : IfSome (Some request) P = subst (λ o. IfSome o P) is (asks (eqb-true entry.0.0 i at)) in
      rw is (All-cons P request (asked_by others) passes all)

  -- where each handle's request passes, all that stand on the rail do
  pub to_requests : (handles : List Entry) → All (AsksOn P i) handles → All P (requests_on handles i)
  to_requests [] all = All-nil P
  to_requests (entry ∷ rest) all =
      to_first entry (filter (λ e. e.0.0 == i) rest) entry.1.request (entry.0.0 == i) refl refl
      (All-head (AsksOn P i) entry rest all) (to_requests rest (All-tail (AsksOn P i) entry rest all))

  from_first : (entry : Entry) (others : List Entry) (request : Option (ℕ × ℕ)) → (entry.0.0 == i) ≡ true → entry.1.request ≡ request
      → All P (asked_by (entry ∷ others)) → IfSome request P × All P (asked_by others)
  from_first entry others None at is all = let same : asked_by (entry ∷ others) ≡ asked_by others = rw is refl in (tt, subst (All P) same all)
  from_first entry others (Some request) at is all =
      let same : asked_by (entry ∷ others) ≡ request ∷ asked_by others = rw is refl in
      let there : All P (request ∷ asked_by others) = subst (All P) same all in
      (All-head P request (asked_by others) there, All-tail P request (asked_by others) there)

  from_by : (entry : Entry) (others : List Entry) (t : Bool) → (entry.0.0 == i) ≡ t → All P (asked_by (cond t (entry ∷ others) others)) → AsksOn P i entry × All P (asked_by others)
  from_by entry others true at all = let both = from_first entry others entry.1.request at refl all in (λ on. both.0, both.1)
  from_by entry others false at all = (λ on. absurd (both_ways _ at (eq-eqb entry.0.0 i on)), all)

  -- and the other way round
  pub from_requests : (handles : List Entry) → All P (requests_on handles i) → All (AsksOn P i) handles
  from_requests [] all = All-nil (AsksOn P i)
  from_requests (entry ∷ rest) all =
      let both = from_by entry (filter (λ e. e.0.0 == i) rest) (entry.0.0 == i) refl all in
      All-cons (AsksOn P i) entry rest both.0 (from_requests rest both.1)
