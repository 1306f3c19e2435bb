-- A worker's handle of a name, among handles of which no two are the same worker's of the same name.
use Rattle.std.proofs.Common.{◌≡◌, ℕ, suc, Bool, true, false, cond, List, [], ◌∷◌, Some, inl, inr, refl, sym, ap, ◌∙◌, arith, get_or, All, AllPairs}
use Rattle.std.proofs.lemmas.Bool.{and_parts, eqb-true, both_ways}
use Rattle.std.proofs.lemmas.Slice.Eq.{bytes_eq-Decides}
use Rattle.std.proofs.lemmas.List.Elements.{All-cons}
use Rattle.std.proofs.lemmas.Option.{same_Some}
use Rattle.plain_board.specs.Handles.{Entry, is_own, open_of}
use Rattle.plain_board.specs.Inv.{StandApart}
use Rattle.plain_board.proofs.ChangedRequest.{StandsOn}

-- the first of a list and each other one, and the others among themselves
pub pairs_first : {A : Type 0} (R : A → A → Type 0) (x : A) (xs : List A) → AllPairs R (x ∷ xs) → All (R x) xs
pairs_first R x xs all k d within = all 0 (suc k) d (omega arith) (omega arith)

pub pairs_rest : {A : Type 0} (R : A → A → Type 0) (x : A) (xs : List A) → AllPairs R (x ∷ xs) → AllPairs R xs
pairs_rest R x xs all i j d before within = all (suc i) (suc j) d (omega arith) (omega arith)

module _ (worker : ℕ) (name : List ℕ) where
  own_parts : (entry : Entry) → is_own worker name entry ≡ true → (entry.1.worker ≡ worker) × (entry.1.handle.bytes ≡ name)
  own_parts entry own =
      let both = and_parts _ _ own in
      (eqb-true entry.1.worker worker both.0, (bytes_eq-Decides entry.1.handle.bytes name).0 both.1)

  -- two of them that stand apart are not both the worker's of this name
  not_both : (first second : Entry) → StandApart first second → is_own worker name first ≡ true → is_own worker name second ≡ true → ⊥
  not_both first second apart one other =
      let a = own_parts first one in
      let b = own_parts second other in
      elim apart.names [ inl workers ↦ workers (a.0 ∙ sym b.0) | inr names ↦ names (a.1 ∙ sym b.1) ]

  open_first : (x entry : Entry) (rest : List Entry) (t : Bool) → is_own worker name x ≡ t → AllPairs StandApart (x ∷ rest)
      → (open_of rest worker name ≡ Some entry → All (StandsOn worker name entry.0.0) rest)
      → cond t (Some x) (open_of rest worker name) ≡ Some entry → All (StandsOn worker name entry.0.0) (x ∷ rest)
  open_first x entry rest true own apart further is =
      All-cons (StandsOn worker name entry.0.0) x rest (λ here. ap (λ (e : Entry). e.0.0) (same_Some _ _ is))
      (λ k d within other. absurd (not_both x (get_or rest k d) (pairs_first StandApart x rest apart k d within) own other))
  open_first x entry rest false own apart further is =
      All-cons (StandsOn worker name entry.0.0) x rest (λ here. absurd (both_ways _ own here)) (further is)

  -- the open handle is the only one, so each that is the worker's of this name stands on its rail
  pub own_stands_on : (handles : List Entry) (entry : Entry) → AllPairs StandApart handles → open_of handles worker name ≡ Some entry → All (StandsOn worker name entry.0.0) handles
  own_stands_on [] entry apart is = absurd (cc)
  own_stands_on (x ∷ rest) entry apart is =
      open_first x entry rest (is_own worker name x) refl apart (own_stands_on rest entry (pairs_rest StandApart x rest apart)) is

  only_first : (x entry : Entry) (rest : List Entry) (t : Bool) → is_own worker name x ≡ t → AllPairs StandApart (x ∷ rest)
      → (open_of rest worker name ≡ Some entry → All (λ other. is_own worker name other ≡ true → other ≡ entry) rest)
      → cond t (Some x) (open_of rest worker name) ≡ Some entry → All (λ other. is_own worker name other ≡ true → other ≡ entry) (x ∷ rest)
  only_first x entry rest true own apart further is =
      All-cons (λ other. is_own worker name other ≡ true → other ≡ entry) x rest (λ here. same_Some _ _ is)
      (λ k d within other. absurd (not_both x (get_or rest k d) (pairs_first StandApart x rest apart k d within) own other))
  only_first x entry rest false own apart further is =
      All-cons (λ other. is_own worker name other ≡ true → other ≡ entry) x rest (λ here. absurd (both_ways _ own here)) (further is)

  -- it is the only one
  pub own_is_only : (handles : List Entry) (entry : Entry) → AllPairs StandApart handles → open_of handles worker name ≡ Some entry
      → All (λ other. is_own worker name other ≡ true → other ≡ entry) handles
  own_is_only [] entry apart is = absurd (cc)
  own_is_only (x ∷ rest) entry apart is =
      only_first x entry rest (is_own worker name x) refl apart (own_is_only rest entry (pairs_rest StandApart x rest apart)) is
