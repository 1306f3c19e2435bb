-- The layout of nodes whose parents are numbered before them.
use Rattle.std.proofs.Common.{◌≡◌, ℕ, zero, suc, ◌+◌, ◌-◌, ◌<◌, ◌≤◌, List, [], ◌∷◌, ◌++◌, Bool, length, filter, get_or, nat_eq, sym, ap, ◌∙◌, subst, arith}
use Rattle.std.proofs.Math.Logic.{⊎_elim}
use Rattle.std.specs.List.{AllByRecursion, range_with_len, flat_map, position_or_len}
use Rattle.std.proofs.lemmas.Bool.{cases_Bool, cases_eq}
use Rattle.dts_tree.specs.Order.{children_from, below, in_tree_order}
use Rattle.dts_tree.specs.Inside.Layout.{IsLayout}
use Rattle.dts_tree.proofs.OrderLemmas.{IsEarlier, filter-passes, filter-fails}
use Rattle.dts_tree.proofs.TreeOrderLemmas.{order-first, order-length, order-led, all-seen}

pub parents-earlier : (owners : List ℕ) → ((k : ℕ) → k < length owners → get_or owners k 0 ≤ k) → IsEarlier (0 ∷ owners)
parents-earlier owners h zero low in_j = absurd (omega (arith, low))
parents-earlier owners h (suc k) low in_j = omega (arith, h k (omega (arith, in_j)))

-- ---- the order has numbers of nodes alone

abbrev AllUnder : ℕ → List ℕ → Type 0
AllUnder n = AllByRecursion (λ k. k < n)

under-append : (n : ℕ) (xs ys : List ℕ) → AllUnder n xs → AllUnder n ys → AllUnder n (xs ++ ys)
under-append n [] ys h more = more
under-append n (x ∷ xs) ys h more = (h.0, under-append n xs ys h.1 more)

under-range : (n : ℕ) (p : ℕ → Bool) (k m : ℕ) → k + m ≤ n → AllUnder n (filter p (range_with_len k m))
under-range n p k zero few = tt
under-range n p k (suc m) few =
    let rest = under-range n p (k + 1) m (omega (arith, few)) in
    ⊎_elim
    (λ here. subst (AllUnder n) (sym (filter-passes p k (range_with_len (k + 1) m) here)) (omega (arith, few), rest))
    (λ other. subst (AllUnder n) (sym (filter-fails p k (range_with_len (k + 1) m) other)) rest)
    (cases_Bool (p k))

under-flat : (n : ℕ) (A : ℕ → List ℕ) (cs : List ℕ) → ((k : ℕ) → k < n → AllUnder n (A k)) → AllUnder n cs → AllUnder n (flat_map A cs)
under-flat n A [] each h = tt
under-flat n A (k ∷ cs) each h = under-append n (A k) (flat_map A cs) (each k h.0) (under-flat n A cs each h.1)

under-children : (parents : List ℕ) (x k : ℕ) → k ≤ length parents → AllUnder (length parents) (children_from parents x k)
unfolding children_from
under-children parents x k low = under-range (length parents) (λ j. nat_eq (get_or parents j 0) x) k (length parents - k) (omega (arith, low))

under-below : (parents : List ℕ) (f x : ℕ) → x < length parents → AllUnder (length parents) (below f parents x)
unfolding below
under-below parents zero x inside = (inside, tt)
under-below parents (suc f) x inside = (inside, under-flat (length parents) (below f parents) (children_from parents x 1) (under-below parents f) (under-children parents x 1 (omega (arith, inside))))

under-at : (n : ℕ) (xs : List ℕ) (i : ℕ) → AllUnder n xs → i < length xs → get_or xs i 0 < n
under-at n [] i h inside = absurd (omega (arith, inside))
under-at n (x ∷ xs) zero h inside = h.0
under-at n (x ∷ xs) (suc i) h inside = under-at n xs i h.1 (omega (arith, inside))

pub under-places : (owners : List ℕ) (x i : ℕ) → i < length (children_from owners x 0) → get_or (children_from owners x 0) i 0 < length owners
under-places owners x i inside = under-at (length owners) (children_from owners x 0) i (under-children owners x 0 (omega arith)) inside

module _ (owners order ranks : List ℕ) (earlier : (k : ℕ) → k < length owners → get_or owners k 0 ≤ k) (h : IsLayout (0 ∷ owners) order ranks) where
  pub layout-length : length order ≡ length owners + 1
  layout-length = ap length h.ordered ∙ order-length (0 ∷ owners) (parents-earlier owners earlier) (omega arith) ∙ omega arith

  pub layout-inside : (i : ℕ) → i < length order → get_or order i 0 < length owners + 1
  layout-inside i inside =
      let under : AllUnder (length (0 ∷ owners)) order = subst (AllUnder (length (0 ∷ owners))) (sym h.ordered) (under-below (0 ∷ owners) (length (0 ∷ owners)) 0 (omega arith)) in
      omega (arith, under-at (length (0 ∷ owners)) order i under inside)

  -- each node stands somewhere in the order
  pub layout-seen : (k : ℕ) → k < length owners + 1 → position_or_len (nat_eq k) order < length order
  layout-seen k inside =
      subst (λ (xs : List ℕ). position_or_len (nat_eq k) xs < length xs) (sym h.ordered)
      (all-seen (0 ∷ owners) (parents-earlier owners earlier) k (omega (arith, inside)))

  -- the parent of a node stands before it
  pub layout-led : (i k : ℕ) → i < length order → get_or order i 0 ≡ suc k → position_or_len (nat_eq (get_or owners k 0)) order < i
  layout-led i k inside is =
      let low : 0 < i = ⊎_elim (λ (z : i ≡ 0). absurd (not_first z)) (λ (n : i ≡ 0 → ⊥). omega (arith, n)) (cases_eq i 0) in
      let led = order-led (0 ∷ owners) (omega arith) i low (subst (λ (xs : List ℕ). i < length xs) h.ordered inside) in
      let here : position_or_len (nat_eq (get_or (0 ∷ owners) (get_or (in_tree_order (0 ∷ owners)) i 0) 0)) (in_tree_order (0 ∷ owners)) ≡ position_or_len (nat_eq (get_or owners k 0)) order =
      ap (λ (xs : List ℕ). position_or_len (nat_eq (get_or (0 ∷ owners) (get_or xs i 0) 0)) xs) (sym h.ordered) ∙ ap (λ (j : ℕ). position_or_len (nat_eq (get_or (0 ∷ owners) j 0)) order) is in
      omega (arith, led, here)
    where
      not_first : i ≡ 0 → ⊥
      not_first z =
          let root : get_or order i 0 ≡ 0 = ap (λ (j : ℕ). get_or order j 0) z ∙ ap (λ (xs : List ℕ). get_or xs 0 0) h.ordered ∙ order-first (0 ∷ owners) (omega arith) in
          omega (arith, root, is)
