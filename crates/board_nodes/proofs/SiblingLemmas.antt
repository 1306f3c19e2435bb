-- The children of nodes, from the last node to the first.
use Rattle.std.proofs.Common.{◌≡◌, ℕ, suc, ◌+◌, ◌-◌, ◌<◌, List, ◌∷◌, Bool, true, false, cond, eqb, Option, Some, None, length, get_or, set, refl, sym, ap, ◌∙◌, arith}
use Rattle.std.proofs.Math.Logic.{⊎_elim}
use Rattle.std.proofs.lemmas.Bool.{cases_eq, cond-true, cond-false, eq-eqb, ne_eqb}
use Rattle.std.proofs.lemmas.List.{length-set, get_or-set_same, get_or-set_other}
use Rattle.std.specs.Option.{option_eq}
use Rattle.dts_tree.specs.Tree.{Node}
use Rattle.dts_nodes.specs.Use.{parent_of}
use Rattle.board_nodes.specs.Inside.Siblings.{numbers_from, has_parent, first_below, IsSiblings}

pub numbers_from-step : (nodes : List Node) (k : ℕ) → k < length nodes → numbers_from nodes k ≡ k ∷ numbers_from nodes (k + 1)
numbers_from-step nodes k inside =
    let more : length nodes - k ≡ suc (length nodes - (k + 1)) = omega (arith, inside) in rw more refl

-- whether a node stands below another, by what its parent is
abbrev is_parent : Option ℕ → ℕ → Bool
is_parent o parent = option_eq (λ a b. eqb a b) o (Some parent)

below-none : (o : Option ℕ) (parent : ℕ) → o ≡ None → is_parent o parent ≡ false
below-none o parent none = rw none refl

below-other : (o : Option ℕ) (p parent : ℕ) → o ≡ Some p → (p ≡ parent → ⊥) → is_parent o parent ≡ false
below-other o p parent is other = rw is (ne_eqb p parent other)

pub below-same : (o : Option ℕ) (p : ℕ) → o ≡ Some p → is_parent o p ≡ true
below-same o p is = rw is (eq-eqb p p refl)

first_below-step : (nodes : List Node) (parent k : ℕ) → k < length nodes → first_below nodes parent k ≡ cond (has_parent nodes parent k) (Some k) (first_below nodes parent (k + 1))
first_below-step nodes parent k inside = rw (numbers_from-step nodes k inside) refl

first_below-here : (nodes : List Node) (parent k : ℕ) → k < length nodes → has_parent nodes parent k ≡ true → first_below nodes parent k ≡ Some k
first_below-here nodes parent k inside here = first_below-step nodes parent k inside ∙ cond-true (has_parent nodes parent k) (Some k) (first_below nodes parent (k + 1)) here

first_below-past : (nodes : List Node) (parent k : ℕ) → k < length nodes → has_parent nodes parent k ≡ false → first_below nodes parent k ≡ first_below nodes parent (k + 1)
first_below-past nodes parent k inside other = first_below-step nodes parent k inside ∙ cond-false (has_parent nodes parent k) (Some k) (first_below nodes parent (k + 1)) other

-- a node without a parent
pub siblings_root : (nodes : List Node) (first next : List (Option ℕ)) (k : ℕ) → k < length nodes → parent_of nodes k ≡ None → IsSiblings nodes first next (k + 1) → IsSiblings nodes first next k
siblings_root nodes first next k inside none h = record {
  firsts = h.firsts;
  nexts = h.nexts;
  child = λ parent within. h.child parent within ∙ sym (first_below-past nodes parent k inside (below-none (parent_of nodes k) parent none));
  sibling = λ node parent from within is. ⊎_elim
      (λ (same : node ≡ k). absurd (let other : None ≡ Some parent = sym none ∙ sym (ap (parent_of nodes) same) ∙ is in cc))
      (λ (other : node ≡ k → ⊥). h.sibling node parent (omega (arith, other, from)) within is)
      (cases_eq node k);
  lower = λ node parent from within is. ⊎_elim
      (λ (same : node ≡ k). absurd (let other : None ≡ Some parent = sym none ∙ sym (ap (parent_of nodes) same) ∙ is in cc))
      (λ (other : node ≡ k → ⊥). h.lower node parent (omega (arith, other, from)) within is)
      (cases_eq node k);
}

-- a node with a parent
pub siblings_more : (nodes : List Node) (first next : List (Option ℕ)) (k p : ℕ) (s : Option ℕ) → k < length nodes → parent_of nodes k ≡ Some p → p < k → s ≡ get_or first p None
    → IsSiblings nodes first next (k + 1) → IsSiblings nodes (set first p (Some k)) (set next k s) k
siblings_more nodes first next k p s inside is_p low is_s h =
    let within_p : p < length nodes = omega (arith, inside, low) in
    record {
      firsts = length-set first p (Some k) ∙ h.firsts;
      nexts = length-set next k s ∙ h.nexts;
      child = λ parent within. ⊎_elim
          (λ (same : p ≡ parent). ap (λ (x : ℕ). get_or (set first p (Some k)) x None) (sym same)
          ∙ get_or-set_same first p (Some k) None (rw h.firsts within_p)
          ∙ sym (first_below-here nodes parent k inside (below-same (parent_of nodes k) parent (is_p ∙ ap Some same))))
          (λ (other : p ≡ parent → ⊥). get_or-set_other first p parent (Some k) None (λ e. other (sym e))
          ∙ h.child parent within
          ∙ sym (first_below-past nodes parent k inside (below-other (parent_of nodes k) p parent is_p other)))
          (cases_eq p parent);
      sibling = λ node parent from within is. ⊎_elim
          (λ (same : node ≡ k).
          let both : p ≡ parent = (let e : Some p ≡ Some parent = sym is_p ∙ sym (ap (parent_of nodes) same) ∙ is in cc) in
          ap (λ (x : ℕ). get_or (set next k s) x None) same
          ∙ get_or-set_same next k s None (rw h.nexts inside)
          ∙ is_s ∙ h.child p within_p
          ∙ ap (λ (x : ℕ). first_below nodes x (k + 1)) both
          ∙ sym (ap (λ (x : ℕ). first_below nodes parent (x + 1)) same))
          (λ (other : node ≡ k → ⊥). get_or-set_other next k node s None other ∙ h.sibling node parent (omega (arith, other, from)) within is)
          (cases_eq node k);
      lower = λ node parent from within is. ⊎_elim
          (λ (same : node ≡ k).
          let both : p ≡ parent = (let e : Some p ≡ Some parent = sym is_p ∙ sym (ap (parent_of nodes) same) ∙ is in cc) in
          omega (arith, both, low, same))
          (λ (other : node ≡ k → ⊥). h.lower node parent (omega (arith, other, from)) within is)
          (cases_eq node k);
    }
