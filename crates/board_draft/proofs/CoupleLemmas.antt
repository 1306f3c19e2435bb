-- What a rail names, cell by cell.
use Rattle.std.proofs.Common.{◌≡◌, ℕ, Bool, true, false, ◌||◌, List, [], ◌∷◌, ◌++◌, Option, Some, None, refl, ap, ◌∙◌, sym}
use Rattle.std.specs.List.{list_any, filter_map}
use Rattle.std.specs.Prelude.{find, if◌then◌else◌}
use Rattle.std.specs.Option.{is_none, option_map}
use Rattle.std.proofs.lemmas.List.{append-nil}
use Rattle.std.proofs.lemmas.List.Elements.{filter_map-append}
use Rattle.std.proofs.lemmas.List.Folds.{list_any-append}
use Rattle.std.proofs.lemmas.Bool.{or_right}
use Rattle.board_draft.specs.declared.couples.Named.{Named}
use Rattle.board_draft.specs.Inside.Couples.{is_bad, first_bad}

or_false : (b : Bool) → (b || false) ≡ b
or_false true = refl
or_false false = refl

module _ (stands : List (Option ℕ)) where
  pub among-some : (n : ℕ) → filter_map (λ named. named) (stands ++ Some n ∷ []) ≡ filter_map (λ named. named) stands ++ n ∷ []
  among-some n = filter_map-append (λ named. named) stands (Some n ∷ [])

  pub among-none : filter_map (λ named. named) (stands ++ None ∷ []) ≡ filter_map (λ named. named) stands
  among-none = filter_map-append (λ named. named) stands (None ∷ []) ∙ append-nil (filter_map (λ named. named) stands)

  pub lacking-some : (n : ℕ) → list_any is_none (stands ++ Some n ∷ []) ≡ list_any is_none stands
  lacking-some n = list_any-append is_none stands (Some n ∷ []) ∙ or_false (list_any is_none stands)

  pub lacking-none : list_any is_none (stands ++ None ∷ []) ≡ true
  lacking-none = list_any-append is_none stands (None ∷ []) ∙ or_right _ _ refl

option_map-option_map : {A B C : Type 0} (g : B → C) (f : A → B) (o : Option A) → option_map g (option_map f o) ≡ option_map (λ a. g (f a)) o
option_map-option_map g f None = refl
option_map-option_map g f (Some a) = refl

-- the first of numbered items that pass a test, with one more
pub first_bad-more : {X : Type 0} (test : ℕ × X → Bool) (es : List (ℕ × X)) (e : ℕ × X) (named : Named) → is_bad e.0 named ≡ test e
    → first_bad (option_map (λ (x : ℕ × X). x.0) (find test es)) e.0 named ≡ option_map (λ (x : ℕ × X). x.0) (find test (es ++ e ∷ []))
first_bad-more {X} test [] e named same =
    rw same
    ((elim (test e) as (λ b. (if b then Some e.0 else None) ≡ option_map (λ (x : ℕ × X). x.0) (if b then Some e else None)) [ true ↦ refl | false ↦ refl ]))
first_bad-more {X} test (x ∷ es) e named same =
    let rest = first_bad-more test es e named same in
    elim (test x) as (λ b. first_bad (option_map (λ (x : ℕ × X). x.0) (if b then Some x else find test es)) e.0 named
    ≡ option_map (λ (x : ℕ × X). x.0) (if b then Some x else find test (es ++ e ∷ []))) [
      | true ↦ refl
      | false ↦ rest
    ]

-- what is told at the first number
pub told_at_first : {X A : Type 0} (fault : ℕ → A) (test : ℕ × X → Bool) (es : List (ℕ × X)) (first : Option ℕ) → first ≡ option_map (λ (x : ℕ × X). x.0) (find test es)
    → option_map (λ (x : ℕ × X). fault x.0) (find test es) ≡ option_map fault first
told_at_first fault test es first is = sym (option_map-option_map fault (λ x. x.0) (find test es)) ∙ ap (option_map fault) (sym is)
