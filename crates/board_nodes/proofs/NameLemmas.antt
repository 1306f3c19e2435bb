-- The first two names that are one, number by number.
use Rattle.std.proofs.Common.{◌≡◌, ℕ, ◌+◌, ◌-◌, ◌<◌, ◌≤◌, List, [], ◌∷◌, Bool, true, false, Option, Some, None, map, length, get_or, refl, sym, ap, ◌∙◌}
use Rattle.std.proofs.Math.Logic.{⊎_elim}
use Rattle.std.proofs.lemmas.Bool.{cases_Bool, cond-true, cond-false, ltb-false}
use Rattle.std.proofs.lemmas.List.{get_or-map}
use Rattle.std.proofs.lemmas.List.Folds.{find-append}
use Rattle.std.specs.List.{AllByRecursion, enumerate_from, find, flat_map, range_with_len}
use Rattle.std.specs.Prelude.{nat_lt}
use Rattle.std.specs.Option.{option_map, option_or}
use Rattle.std.specs.Str.{bytes_eq}
use Rattle.board_nodes.specs.declared.draft.Draft.{Draft}
use Rattle.board_nodes.specs.Faults.{same_at, pairs_with, two_names}
use Rattle.board_nodes.specs.Inside.Drafts.{name_of, same_behind, long_from, found_in, IsShort}
use Rattle.board_nodes.proofs.RangeLemmas.{range-step, range-end, range-all}

-- the names of two drafts by their places
pub same_at-is : (drafts : List Draft) (a b : ℕ) (x y : Draft) → a < length drafts → b < length drafts
    → same_at (map name_of drafts) a b ≡ bytes_eq (name_of (get_or drafts a x)) (name_of (get_or drafts b y))
same_at-is drafts a b x y in_a in_b =
    ap (λ (n : List ℕ). bytes_eq n (get_or (map name_of drafts) b [])) (get_or-map name_of drafts a x [] in_a)
    ∙ ap (bytes_eq (name_of (get_or drafts a x))) (get_or-map name_of drafts b y [] in_b)

module _ (names : List (List ℕ)) where
  abbrev are_same : ℕ × ℕ → Bool
  are_same pair = same_at names pair.0 pair.1

  -- the first two from number a on
  abbrev pub two_from : ℕ → Option (ℕ × ℕ)
  two_from a = find are_same (flat_map (pairs_with (length names)) (range_with_len a (length names - a)))

  find-with : (a : ℕ) (bs : List ℕ) → find are_same (map (λ b. (a, b)) bs) ≡ option_map (λ b. (a, b)) (find (same_at names a) bs)
  find-with a [] = refl
  find-with a (b ∷ bs) = ⊎_elim
      (λ (same : same_at names a b ≡ true).
      cond-true (same_at names a b) (Some (a, b)) (find are_same (map (λ b. (a, b)) bs)) same
      ∙ sym (ap (option_map (λ b. (a, b))) (cond-true (same_at names a b) (Some b) (find (same_at names a) bs) same)))
      (λ (differ : same_at names a b ≡ false).
      cond-false (same_at names a b) (Some (a, b)) (find are_same (map (λ b. (a, b)) bs)) differ
      ∙ find-with a bs
      ∙ sym (ap (option_map (λ b. (a, b))) (cond-false (same_at names a b) (Some b) (find (same_at names a) bs) differ)))
      (cases_Bool (same_at names a b))

  pub two_from-all : two_names names ≡ two_from 0
  two_from-all = ap (λ (ns : List ℕ). find are_same (flat_map (pairs_with (length names)) ns)) (sym (range-all (length names)))

  pub two_from-step : (a : ℕ) → a < length names → two_from a ≡ option_or (option_map (λ b. (a, b)) (same_behind names a)) (two_from (a + 1))
  two_from-step a inside =
      ap (λ (ns : List ℕ). find are_same (flat_map (pairs_with (length names)) ns)) (range-step a (length names) inside)
      ∙ find-append are_same (pairs_with (length names) a) (flat_map (pairs_with (length names)) (range_with_len (a + 1) (length names - (a + 1))))
      ∙ ap (λ (o : Option (ℕ × ℕ)). option_or o (two_from (a + 1))) (find-with a (range_with_len (a + 1) (length names - (a + 1))))

  pub two_from-end : (a : ℕ) → length names ≤ a → two_from a ≡ None
  two_from-end a past = ap (λ (ns : List ℕ). find are_same (flat_map (pairs_with (length names)) ns)) (range-end a (length names) past)

-- where no name is too long, each is short
pub short_from : (k : ℕ) (drafts : List Draft) → long_from k (map name_of drafts) ≡ None → AllByRecursion IsShort drafts
short_from k [] none = tt
short_from k (d ∷ ds) none = ⊎_elim
    (λ (long : nat_lt 64 (length (name_of d)) ≡ true).
    absurd (let e : Some k ≡ None = sym (ap (option_map (λ named. named.0)) (cond-true (nat_lt 64 (length (name_of d))) (Some (k, name_of d)) (next k ds) long)) ∙ none in cc))
    (λ (short : nat_lt 64 (length (name_of d)) ≡ false). (
      ltb-false 64 (length (name_of d)) short,
      short_from (k + 1) ds (sym (ap (option_map (λ named. named.0)) (cond-false (nat_lt 64 (length (name_of d))) (Some (k, name_of d)) (next k ds) short)) ∙ none),
    ))
    (cases_Bool (nat_lt 64 (length (name_of d))))
  where
    next : ℕ → List Draft → Option (ℕ × List ℕ)
    next k ds = find (λ named. nat_lt 64 (length named.1)) (enumerate_from (k + 1) (map name_of ds))

pub names-found : (drafts : List Draft) → map (λ rail. rail.name) (map found_in drafts) ≡ map name_of drafts
names-found [] = refl
names-found (d ∷ ds) = ap (λ names. name_of d ∷ names) (names-found ds)
