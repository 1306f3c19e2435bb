-- A walk over the children of a node finds the one of a name.
use Rattle.std.proofs.Common.{◌≡◌, ℕ, zero, suc, ◌+◌, ◌-◌, ◌<◌, ◌≤◌, List, [], ◌∷◌, Bool, true, false, cond, eqb, ◌&&◌, Option, Some, None, length, get_or, refl, sym, ap, ◌∙◌, arith, subst}
use Rattle.std.proofs.Math.Logic.{⊎_elim}
use Rattle.std.proofs.lemmas.Bool.{cases_Bool, cases_lt, cond-true, cond-false, and_left, eqb-true}
use Rattle.std.proofs.lemmas.List.{length_push, get_or_append_left, get_or_push}
use Rattle.std.specs.List.{find, range_with_len}
use Rattle.std.specs.Option.{option_eq, option_map_or}
use Rattle.std.specs.Str.{bytes_eq}
use Rattle.dts_tree.specs.Tree.{Node}
use Rattle.dts_tree.specs.Look.{bare}
use Rattle.dts_nodes.specs.Use.{parent_of, in_use, in_use_first, is_below_used, is_good, is_used, good_child_of}
use Rattle.board_nodes.specs.Inside.Siblings.{numbers_from, has_parent, first_below}
use Rattle.board_nodes.proofs.SiblingLemmas.{numbers_from-step, below-same}

-- ---- the first that passes, among those that pass a weaker test

module _ (P Q : ℕ → Bool) (weaker : (x : ℕ) → Q x ≡ false → P x ≡ false) where
  abbrev next : ℕ → ℕ → Option ℕ
  next k len = find P (range_with_len k len)

  find-skip : (k len : ℕ) → find Q (range_with_len k len) ≡ None → next k len ≡ None
  find-skip k zero none = refl
  find-skip k (suc len) none = ⊎_elim
      (λ (here : Q k ≡ true). absurd (let e : Some k ≡ None = sym (cond-true (Q k) (Some k) (find Q (range_with_len (k + 1) len)) here) ∙ none in cc))
      (λ (past : Q k ≡ false).
      cond-false (P k) (Some k) (next (k + 1) len) (weaker k past)
      ∙ find-skip (k + 1) len (sym (cond-false (Q k) (Some k) (find Q (range_with_len (k + 1) len)) past) ∙ none))
      (cases_Bool (Q k))

  -- the weaker test passes first here
  record IsFirst (k len m : ℕ) : Type 0 where
    pub same : next k len ≡ next m (k + len - m)
    pub from : k ≤ m
    pub within : m < k + len
    pub passes : Q m ≡ true

  find-to : (k len m : ℕ) → find Q (range_with_len k len) ≡ Some m → IsFirst k len m
  find-to k zero m is = absurd (let e : None ≡ Some m = is in cc)
  find-to k (suc len) m is = ⊎_elim
      (λ (here : Q k ≡ true).
      let at : k ≡ m = (let e : Some k ≡ Some m = sym (cond-true (Q k) (Some k) (find Q (range_with_len (k + 1) len)) here) ∙ is in cc) in
      let all : suc len ≡ k + suc len - k = omega arith in
      let first : IsFirst k (suc len) k = record { same = ap (next k) all; from = omega arith; within = omega arith; passes = here } in
      subst (λ (x : ℕ). IsFirst k (suc len) x) at first)
      (λ (past : Q k ≡ false).
      let rest : IsFirst (k + 1) len m = find-to (k + 1) len m (sym (cond-false (Q k) (Some k) (find Q (range_with_len (k + 1) len)) past) ∙ is) in
      let same_len : (k + 1) + len - m ≡ k + suc len - m = omega arith in
      record {
        same = cond-false (P k) (Some k) (next (k + 1) len) (weaker k past) ∙ rest.same ∙ ap (next m) same_len;
        from = omega (arith, rest.from);
        within = omega (arith, rest.within);
        passes = rest.passes;
      })
      (cases_Bool (Q k))

pub find-within : (P : ℕ → Bool) (k len m : ℕ) → find P (range_with_len k len) ≡ Some m → m < k + len
find-within P k len m is = (find-to P P (λ x fails. fails) k len m is).within

-- ---- the flags of nodes

length-in_use_first : (nodes : List Node) (k : ℕ) → length (in_use_first nodes k) ≡ k
length-in_use_first nodes zero = refl
length-in_use_first nodes (suc k) = let before = length-in_use_first nodes k in length_push _ _ ∙ omega (arith, before)

pub length-in_use : (nodes : List Node) → length (in_use nodes) ≡ length nodes
length-in_use nodes = length-in_use_first nodes (length nodes)

-- whether a node is in use, by the nodes before it
abbrev flag : List Node → ℕ → Bool
flag nodes k = is_below_used (in_use_first nodes k) (parent_of nodes k) && is_good nodes k

flag_at : (nodes : List Node) (n k : ℕ) → k < n → get_or (in_use_first nodes n) k false ≡ flag nodes k
flag_at nodes zero k past = absurd (omega (arith, past))
flag_at nodes (suc n) k past = ⊎_elim
    (λ (before : k < n). get_or_append_left (in_use_first nodes n) (flag nodes n ∷ []) false k (rw (length-in_use_first nodes n) before) ∙ flag_at nodes n k before)
    (λ (not_before : n ≤ k).
    let last : n ≡ k = omega (arith, past, not_before) in
    get_or_push (in_use_first nodes n) (flag nodes n) false k (length-in_use_first nodes n ∙ last) ∙ ap (flag nodes) last)
    (cases_lt k n)

-- a child of a node in use is in use if its status is good
pub used_is_good : (nodes : List Node) (node parent : ℕ) → node < length nodes → parent_of nodes node ≡ Some parent → parent < node → is_used nodes parent ≡ true → is_used nodes node ≡ is_good nodes node
used_is_good nodes node parent inside is lower used =
    let same : get_or (in_use_first nodes node) parent false ≡ true = flag_at nodes node parent lower ∙ sym (flag_at nodes (length nodes) parent (omega (arith, inside, lower))) ∙ used in
    let below : is_below_used (in_use_first nodes node) (parent_of nodes node) ≡ true = rw is same in
    flag_at nodes (length nodes) node inside ∙ rw below refl

-- ---- the walk

-- the first child of a name with a good status, from number k on
abbrev is_good_child : List Node → ℕ → List ℕ → ℕ → Bool
is_good_child nodes parent name node = has_parent nodes parent node && bytes_eq name (get_or nodes node bare).name && is_good nodes node

abbrev pub good_from : List Node → ℕ → List ℕ → ℕ → Option ℕ
good_from nodes parent name k = find (is_good_child nodes parent name) (numbers_from nodes k)

-- that child, if the walk stands at this one
abbrev pub found_at : List Node → ℕ → List ℕ → Option ℕ → Option ℕ
found_at nodes parent name None = None
found_at nodes parent name (Some k) = good_from nodes parent name k

-- the walk stands at a child, or at its end
abbrev pub IsChild : List Node → ℕ → ℕ → Option ℕ → Type 0
IsChild nodes parent k None = Unit {0}
IsChild nodes parent k (Some node) = (k ≤ node) × (node < length nodes) × (parent_of nodes node ≡ Some parent)

same-parent : (o : Option ℕ) (p : ℕ) → option_eq (λ a b. eqb a b) o (Some p) ≡ true → o ≡ Some p
same-parent None p is = absurd (let e : false ≡ true = is in cc)
same-parent (Some q) p is = ap Some (eqb-true q p is)

module _ (nodes : List Node) (parent : ℕ) (name : List ℕ) where
  weaker : (x : ℕ) → has_parent nodes parent x ≡ false → is_good_child nodes parent name x ≡ false
  weaker x other = and_left (has_parent nodes parent x && bytes_eq name (get_or nodes x bare).name) (is_good nodes x) (and_left (has_parent nodes parent x) (bytes_eq name (get_or nodes x bare).name) other)

  pub walk : (k : ℕ) → k ≤ length nodes → (s : Option ℕ) → first_below nodes parent k ≡ s → (good_from nodes parent name k ≡ found_at nodes parent name s) × IsChild nodes parent k s
  walk k inside None is = (find-skip (is_good_child nodes parent name) (has_parent nodes parent) weaker k (length nodes - k) is, tt)
  walk k inside (Some m) is =
      let first = find-to (is_good_child nodes parent name) (has_parent nodes parent) weaker k (length nodes - k) m is in
      let same_len : k + (length nodes - k) - m ≡ length nodes - m = omega (arith, inside) in
      (first.same ∙ ap (λ (len : ℕ). find (is_good_child nodes parent name) (range_with_len m len)) same_len, (first.from, omega (arith, first.within, inside), same-parent (parent_of nodes m) parent first.passes))

  good_from-step : (k : ℕ) → k < length nodes → good_from nodes parent name k ≡ cond (is_good_child nodes parent name k) (Some k) (good_from nodes parent name (k + 1))
  good_from-step k inside = rw (numbers_from-step nodes k inside) refl

  -- the test of the walk is that of the child
  test-is : (node : ℕ) → node < length nodes → parent_of nodes node ≡ Some parent → parent < node → is_used nodes parent ≡ true
      → is_good_child nodes parent name node ≡ (is_used nodes node && bytes_eq name (get_or nodes node bare).name)
  test-is node inside is lower used =
      let here : has_parent nodes parent node ≡ true = below-same (parent_of nodes node) parent is in
      let flag_is : is_used nodes node ≡ is_good nodes node = used_is_good nodes node parent inside is lower used in
      rw (here, flag_is) (turned (bytes_eq name (get_or nodes node bare).name) (is_good nodes node))
    where
      turned : (a b : Bool) → (a && b) ≡ (b && a)
      turned true true = refl
      turned true false = refl
      turned false true = refl
      turned false false = refl

  pub walk-hit : (node : ℕ) → node < length nodes → parent_of nodes node ≡ Some parent → parent < node → is_used nodes parent ≡ true
      → (is_used nodes node && bytes_eq name (get_or nodes node bare).name) ≡ true → good_from nodes parent name node ≡ Some node
  walk-hit node inside is lower used test =
      good_from-step node inside ∙ cond-true (is_good_child nodes parent name node) (Some node) (good_from nodes parent name (node + 1)) (test-is node inside is lower used ∙ test)

  pub walk-miss : (node : ℕ) → node < length nodes → parent_of nodes node ≡ Some parent → parent < node → is_used nodes parent ≡ true
      → (is_used nodes node && bytes_eq name (get_or nodes node bare).name) ≡ false → good_from nodes parent name node ≡ good_from nodes parent name (node + 1)
  walk-miss node inside is lower used test =
      good_from-step node inside ∙ cond-false (is_good_child nodes parent name node) (Some node) (good_from nodes parent name (node + 1)) (test-is node inside is lower used ∙ test)

  pub good_from-all : good_from nodes parent name 0 ≡ good_child_of nodes parent name
  good_from-all = let all : length nodes - 0 ≡ length nodes = omega arith in ap (λ (len : ℕ). find (is_good_child nodes parent name) (range_with_len 0 len)) all

pub IsChild-weaker : (nodes : List Node) (parent k : ℕ) (s : Option ℕ) → IsChild nodes parent (k + 1) s → IsChild nodes parent 0 s
IsChild-weaker nodes parent k None is = tt
IsChild-weaker nodes parent k (Some node) is = (omega arith, is.1, is.2)

-- the walk comes nearer to the last node
pub falls : (nodes : List Node) (parent node : ℕ) → node < length nodes → (s : Option ℕ) → IsChild nodes parent (node + 1) s → (at : Option ℕ) → at ≡ Some node
    → option_map_or (λ (m : ℕ). length nodes - m) s 0 < option_map_or (λ (m : ℕ). length nodes - m) at 0
falls nodes parent node inside None is at at_is = rw at_is (omega (arith, inside))
falls nodes parent node inside (Some m) is at at_is = rw at_is (omega (arith, inside, is.0, is.1))
