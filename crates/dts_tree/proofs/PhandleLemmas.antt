-- The first node with a number, one node more.
use Rattle.std.proofs.Common.{◌≡◌, ℕ, ◌+◌, ◌<◌, List, [], ◌∷◌, ◌++◌, Bool, not, cond, Some, None, length, take, get_or, refl, sym, ap, ◌∙◌, arith}
use Rattle.std.proofs.Math.Logic.{⊎_elim}
use Rattle.std.specs.Ordering.{nat_cmp}
use Rattle.std.specs.BTreeMap.{BTreeMap, get, IsEmpty}
use Rattle.std.specs.List.{position, position_or_len}
use Rattle.std.proofs.lemmas.Bool.{cases_lt, cases_Bool, cond-true, cond-false, eq-eqb, lt-ltb, le-ltb}
use Rattle.std.proofs.lemmas.List.{take_more, length-take-le, length-append}
use Rattle.std.proofs.lemmas.List.Folds.{position_or_len_push}
use Rattle.std.proofs.lemmas.List.Sums.{prefix_len-le-length}
use Rattle.std.specs.Option.{option_or}
use Rattle.dts_tree.proofs.TreeOrderLemmas.{position-wider}

pub get-empty : (m : BTreeMap ℕ ℕ) (n : ℕ) → IsEmpty m → get nat_cmp m n ≡ None
get-empty m n none = rw none refl

-- ---- the first place that passes

module _ {X : Type 0} (p : X → Bool) where
  position-here : (xs : List X) (i : ℕ) → position_or_len p xs ≡ i → i < length xs → position p xs ≡ Some i
  position-here xs i is inside = rw is (cond-true _ (Some i) None (lt-ltb i (length xs) inside))

  position-none : (xs : List X) → position_or_len p xs ≡ length xs → position p xs ≡ None
  position-none xs is = cond-false _ (Some (position_or_len p xs)) None (le-ltb (position_or_len p xs) (length xs) (omega (arith, is)))

  -- one item more
  pub position-more : (xs : List X) (m : ℕ) (d : X) → m < length xs → position p (take (m + 1) xs) ≡ option_or (position p (take m xs)) (cond (p (get_or xs m d)) (Some m) None)
  position-more xs m d inside =
      let long : length (take m xs) ≡ m = length-take-le m xs (omega arith) in
      let x = get_or xs m d in
      let split = take_more xs m d inside in
      ap (position p) split ∙ ⊎_elim
      (λ found.
      let here = position-here (take m xs) (position_or_len p (take m xs)) refl found in
      let wider = position-wider p (take m xs) (x ∷ []) found in
      position-here (take m xs ++ x ∷ []) (position_or_len p (take m xs)) wider (omega (arith, found, length-append (take m xs) (x ∷ [])))
      ∙ ap (λ o. option_or o (cond (p x) (Some m) None)) (sym here))
      (λ past.
      let all : position_or_len p (take m xs) ≡ length (take m xs) = omega (arith, past, prefix_len-le-length (λ y. not (p y)) (take m xs)) in
      let none = position-none (take m xs) all in
      last-item (take m xs) x m all long
      ∙ ap (λ o. option_or o (cond (p x) (Some m) None)) (sym none))
      (cases_lt (position_or_len p (take m xs)) (length (take m xs)))
    where
      last-item : (ys : List X) (x : X) (n : ℕ) → position_or_len p ys ≡ length ys → length ys ≡ n → position p (ys ++ x ∷ []) ≡ cond (p x) (Some n) None
      last-item ys x n all long =
          let count : position_or_len p (ys ++ x ∷ []) ≡ length ys + cond (p x) 0 1 = position_or_len_push p ys x ∙ cond-true _ (length ys + cond (p x) 0 1) (position_or_len p ys) (eq-eqb _ _ all) in
          ⊎_elim
          (λ here.
          let zero_more : cond {A = ℕ} (p x) 0 1 ≡ 0 = cond-true (p x) 0 1 here in
          position-here (ys ++ x ∷ []) n (omega (arith, count, zero_more, long)) (omega (arith, long, length-append ys (x ∷ []))) ∙ sym (cond-true (p x) (Some n) None here))
          (λ other.
          let one_more : cond {A = ℕ} (p x) 0 1 ≡ 1 = cond-false (p x) 0 1 other in
          position-none (ys ++ x ∷ []) (omega (arith, count, one_more, length-append ys (x ∷ []))) ∙ sym (cond-false (p x) (Some n) None other))
          (cases_Bool (p x))
