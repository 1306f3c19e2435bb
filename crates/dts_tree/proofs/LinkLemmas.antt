-- The links from owners to their items, made from the last item to the first.
use Rattle.std.proofs.Common.{◌≡◌, ℕ, zero, suc, ◌+◌, ◌-◌, ◌<◌, ◌≤◌, List, [], ◌∷◌, cond, Option, Some, None, length, get_or, set, replicate, nat_eq, refl, sym, ap, ◌∙◌, arith}
use Rattle.std.proofs.Math.Logic.{⊎_elim}
use Rattle.std.proofs.lemmas.Bool.{cases_eq, cond-true, cond-false, eq-eqb, ne_eqb}
use Rattle.std.proofs.lemmas.List.{length-set, get_or-set_same, get_or-set_other}
use Rattle.dts_tree.specs.Order.{children_from}
use Rattle.dts_tree.specs.Inside.Links.{first_of, Linked}

pub children_from-end : (owners : List ℕ) (x k : ℕ) → length owners ≤ k → children_from owners x k ≡ []
unfolding children_from
children_from-end owners x k past =
    let none : length owners - k ≡ 0 = omega (arith, past) in rw none refl

pub children_from-step : (owners : List ℕ) (x k : ℕ) → k < length owners → children_from owners x k ≡ cond (nat_eq (get_or owners k 0) x) (k ∷ children_from owners x (k + 1)) (children_from owners x (k + 1))
unfolding children_from
children_from-step owners x k h =
    let more : length owners - k ≡ suc (length owners - (k + 1)) = omega (arith, h) in rw more refl

pub linked_start : (owners : List ℕ) (count : ℕ) (first next : List (Option ℕ)) → length first ≡ count → length next ≡ length owners → ((x : ℕ) → get_or first x None ≡ None) → ((x : ℕ) → get_or next x None ≡ None) → Linked owners count first next (length owners)
linked_start owners count first next firsts nexts none_first none_next = record {
  firsts = firsts;
  nexts = nexts;
  child = λ x h. none_first x ∙ sym (ap first_of (children_from-end owners x (length owners) (omega arith)));
  sibling = λ j past h. absurd (omega (arith, past, h));
  alone = λ j h. none_next j;
}

pub linked_more : (owners : List ℕ) (count : ℕ) (first next : List (Option ℕ)) (k : ℕ) (s : Option ℕ) → k < length owners → get_or owners k 0 < count → s ≡ get_or first (get_or owners k 0) None → Linked owners count first next (k + 1) → Linked owners count (set first (get_or owners k 0) (Some k)) (set next k s) k
linked_more owners count first next k s high owned is h = record {
  firsts = length-set first (get_or owners k 0) (Some k) ∙ h.firsts;
  nexts = length-set next k s ∙ h.nexts;
  child = λ x in_x. ⊎_elim
      (λ (e : get_or owners k 0 ≡ x). ap (λ (y : ℕ). get_or (set first (get_or owners k 0) (Some k)) y None) (sym e)
      ∙ (get_or-set_same first (get_or owners k 0) (Some k) None (rw h.firsts owned)
      ∙ sym (ap first_of (children_from-step owners x k high ∙ cond-true _ (k ∷ children_from owners x (k + 1)) (children_from owners x (k + 1)) (eq-eqb (get_or owners k 0) x e)))))
      (λ n. get_or-set_other first (get_or owners k 0) x (Some k) None (λ e. n (sym e))
      ∙ (h.child x in_x ∙ sym (ap first_of (children_from-step owners x k high ∙ cond-false _ (k ∷ children_from owners x (k + 1)) (children_from owners x (k + 1)) (ne_eqb (get_or owners k 0) x n)))))
      (cases_eq (get_or owners k 0) x);
  sibling = λ j from in_j. ⊎_elim
      (λ e. ap (λ (i : ℕ). get_or (set next k s) i None) e
      ∙ (get_or-set_same next k s None (rw h.nexts high)
      ∙ (is ∙ (h.child (get_or owners k 0) owned
      ∙ sym (ap (λ (i : ℕ). first_of (children_from owners (get_or owners i 0) (i + 1))) e)))))
      (λ n. get_or-set_other next k j s None n ∙ h.sibling j (omega (arith, n, from)) in_j)
      (cases_eq j k);
  alone = λ j low. get_or-set_other next k j s None (λ e. omega (arith, e, low)) ∙ h.alone j (omega (arith, low));
}

replicate_none : (n x : ℕ) → get_or (replicate {A = Option ℕ} n None) x None ≡ None
replicate_none zero x = refl
replicate_none (suc n) zero = refl
replicate_none (suc n) (suc x) = replicate_none n x

-- all are without a link
pub none_each : (xs : List (Option ℕ)) (n : ℕ) → xs ≡ replicate n None → (x : ℕ) → get_or xs x None ≡ None
none_each xs n is x = ap (λ ys. get_or ys x None) is ∙ replicate_none n x
