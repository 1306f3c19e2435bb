-- What a reader of board files expects of a tree.
use Rattle.std.proofs.Common.{◌≡◌, ℕ, zero, suc, ◌+◌, ◌<◌, ◌≤◌, List, [], ◌∷◌, Bool, true, false, not, cond, Option, Some, None, Result, Ok, Err, length, map, filter, get_or, nat_eq, refl, sym, ap, ◌∙◌, subst, arith}
use Rattle.std.proofs.Math.Logic.{⊎_elim}
use Rattle.std.specs.List.{AllByRecursion, position_or_len, range_with_len, find}
use Rattle.std.proofs.lemmas.Bool.{cases_eq, cases_lt, cases_Bool, eq-eqb, ne_eqb, eqb-true}
use Rattle.std.proofs.lemmas.List.{get_or-map}
use Rattle.std.proofs.lemmas.List.FromFn.{length-map-range_with_len, get_or-map-range_with_len}
use Rattle.name_map.specs.NameEntries.{same_name}
use Rattle.dts_tree.specs.declared.fault.TreeFault.{TreeFault}
use Rattle.dts_tree.specs.declared.store.Opened.{Opened}
use Rattle.dts_tree.specs.Value.{Part, Property, part_by}
use Rattle.dts_tree.specs.Setting.{Label, Setting}
use Rattle.dts_tree.specs.Content.{Content, nothing, node_of, or_root, unless_fault, with_settings}
use Rattle.dts_tree.specs.Outcome.{outcome_of, concluded, unless_unknown, is_unknown, labels_in}
use Rattle.std.specs.List.{flat_map}
use Rattle.dts_tree.specs.Tree.{Node, order_of, rank, node_in, properties_of, tree_of}
use Rattle.dts_tree.specs.Look.{bare, properties_at}
use Rattle.dts_tree.specs.Laws.{node_at, IsTree, TreesAreTrees}
use Rattle.dts_tree.specs.Inside.Layout.{IsLayout}
use Rattle.dts_tree.specs.Inside.Sane.{Apart, Sane}
use Rattle.dts_tree.proofs.ContentLemmas.{same_name-self}
use Rattle.dts_tree.proofs.SaneLemmas.{sane}
use Rattle.dts_tree.proofs.TakeLemmas.{earlier-at}
use Rattle.dts_tree.proofs.LayoutLemmas.{layout-length, layout-inside, layout-seen, layout-led}
use Rattle.dts_tree.proofs.TreeOrderLemmas.{Seen, order-first}

-- ---- numbers that are all there, in a list that is no longer, are there once

without : ℕ → List ℕ → List ℕ
without m [] = []
without m (x ∷ xs) = cond (nat_eq m x) xs (x ∷ without m xs)

seen-tail : (k x : ℕ) (xs : List ℕ) → nat_eq k x ≡ false → Seen k (x ∷ xs) → Seen k xs
seen-tail k x xs differ h =
    let e : cond (not (nat_eq k x)) (1 + position_or_len (nat_eq k) xs) 0 ≡ 1 + position_or_len (nat_eq k) xs = ap (λ (b : Bool). cond (not b) (1 + position_or_len (nat_eq k) xs) 0) differ in
    omega (arith, h, e)

seen-cons : (k x : ℕ) (xs : List ℕ) → Seen k xs → Seen k (x ∷ xs)
seen-cons k x xs h =
    elim (nat_eq k x) as (λ (b : Bool). cond (not b) (1 + position_or_len (nat_eq k) xs) 0 < length (x ∷ xs)) [ true ↦ omega arith | false ↦ omega (arith, h) ]

seen-head : (k x : ℕ) (xs : List ℕ) → nat_eq k x ≡ true → Seen k (x ∷ xs)
seen-head k x xs same =
    let e : cond (not (nat_eq k x)) (1 + position_or_len (nat_eq k) xs) 0 ≡ 0 = ap (λ (b : Bool). cond (not b) (1 + position_or_len (nat_eq k) xs) 0) same in
    omega (arith, e)

seen-at : (k : ℕ) (xs : List ℕ) (i : ℕ) → i < length xs → get_or xs i 0 ≡ k → Seen k xs
seen-at k [] i inside is = absurd (omega arith)
seen-at k (x ∷ xs) zero inside is = seen-head k x xs (eq-eqb k x (sym is))
seen-at k (x ∷ xs) (suc i) inside is = seen-cons k x xs (seen-at k xs i (omega arith) is)

without-length : (m : ℕ) (xs : List ℕ) → Seen m xs → length (without m xs) + 1 ≡ length xs
unfolding without
without-length m [] h = absurd (omega (arith, h))
without-length m (x ∷ xs) h =
    elim (nat_eq m x) as (λ (b : Bool). nat_eq m x ≡ b → length (cond b xs (x ∷ without m xs)) + 1 ≡ length (x ∷ xs)) [
      | true ↦ λ is. omega arith
      | false ↦ λ is. (let r = without-length m xs (seen-tail m x xs is h) in omega (arith, r))
    ] refl

without-seen : (m k : ℕ) (xs : List ℕ) → (k ≡ m → ⊥) → Seen k xs → Seen k (without m xs)
unfolding without
without-seen m k [] differ h = h
without-seen m k (x ∷ xs) differ h =
    elim (nat_eq m x) as (λ (b : Bool). nat_eq m x ≡ b → Seen k (cond b xs (x ∷ without m xs))) [
      | true ↦ λ is. seen-tail k x xs (ne_eqb k x (λ e. differ (e ∙ sym (eqb-true m x is)))) h
      | false ↦ λ is. ⊎_elim (λ here. seen-head k x (without m xs) here) (λ other. seen-cons k x (without m xs) (without-seen m k xs differ (seen-tail k x xs other h))) (cases_Bool (nat_eq k x))
    ] refl

-- as many items as numbers, at least
all-long : (n : ℕ) (xs : List ℕ) → ((k : ℕ) → k < n → Seen k xs) → n ≤ length xs
all-long zero xs h = omega arith
all-long (suc n) xs h =
    let r = all-long n (without n xs) (λ k low. without-seen n k xs (λ e. omega (arith, e, low)) (h k (omega (arith, low)))) in
    omega (arith, r, without-length n xs (h n (omega arith)))

-- a second item of a number is there still when the first is taken
twice-seen : (m : ℕ) (xs : List ℕ) (i j : ℕ) → i < j → j < length xs → get_or xs i 0 ≡ m → get_or xs j 0 ≡ m → Seen m (without m xs)
unfolding without
twice-seen m [] i j less inside one two = absurd (omega arith)
twice-seen m (x ∷ xs) zero (suc j) less inside one two =
    subst (λ (b : Bool). Seen m (cond b xs (x ∷ without m xs))) (sym (eq-eqb m x (sym one))) (seen-at m xs j (omega arith) two)
twice-seen m (x ∷ xs) zero zero less inside one two = absurd (omega arith)
twice-seen m (x ∷ xs) (suc i) zero less inside one two = absurd (omega arith)
twice-seen m (x ∷ xs) (suc i) (suc j) less inside one two =
    elim (nat_eq m x) as (λ (b : Bool). Seen m (cond b xs (x ∷ without m xs))) [
      | true ↦ seen-at m xs j (omega arith) two
      | false ↦ seen-cons m x (without m xs) (twice-seen m xs i j (omega arith) (omega arith) one two)
    ]

once-less : (n : ℕ) (xs : List ℕ) → ((k : ℕ) → k < n → Seen k xs) → length xs ≤ n → (i j : ℕ) → i < j → j < length xs → get_or xs i 0 ≡ get_or xs j 0 → ⊥
once-less n xs all few i j less inside same =
    let m : ℕ = get_or xs j 0 in
    let left = all-long n (without m xs) (λ k low. ⊎_elim (λ (e : k ≡ m). subst (λ (x : ℕ). Seen x (without m xs)) (sym e) (twice-seen m xs i j less inside same refl)) (λ (differ : k ≡ m → ⊥). without-seen m k xs differ (all k low)) (cases_eq k m)) in
    omega (arith, left, without-length m xs (seen-at m xs j inside refl), few)

once : (n : ℕ) (xs : List ℕ) → ((k : ℕ) → k < n → Seen k xs) → length xs ≤ n → (i j : ℕ) → i < length xs → j < length xs → get_or xs i 0 ≡ get_or xs j 0 → i ≡ j
once n xs all few i j in_i in_j same =
    ⊎_elim (λ less. absurd (once-less n xs all few i j less in_j same))
    (λ more. ⊎_elim (λ less. absurd (once-less n xs all few j i less in_i (sym same))) (λ other. omega (arith, more, other)) (cases_lt j i))
    (cases_lt i j)

-- what stands at the place of a number that is there
seen-back : (k : ℕ) (xs : List ℕ) → Seen k xs → get_or xs (position_or_len (nat_eq k) xs) 0 ≡ k
seen-back k [] h = absurd (omega (arith, h))
seen-back k (x ∷ xs) h =
    elim (nat_eq k x) as (λ (b : Bool). nat_eq k x ≡ b → get_or (x ∷ xs) (cond (not b) (1 + position_or_len (nat_eq k) xs) 0) 0 ≡ k) [
      | true ↦ λ is. sym (eqb-true k x is)
      | false ↦ λ is. (let p : 1 + position_or_len (nat_eq k) xs ≡ suc (position_or_len (nat_eq k) xs) = omega arith in ap (λ (n : ℕ). get_or (x ∷ xs) n 0) p ∙ seen-back k xs (seen-tail k x xs is h))
    ] refl

-- ---- keys that are apart

module _ {V : Type 0} where
  all-apart : (es : List ((ℕ × List ℕ) × V)) (key : ℕ × List ℕ) (i : ℕ) → AllByRecursion (λ f. same_name key f.0 ≡ false) es → i < length es → (get_or (map (λ e. e.0.0) es) i 0 ≡ key.0) → (get_or (map (λ e. e.0.1) es) i [] ≡ key.1) → ⊥
  all-apart [] key i h inside owner name = omega arith
  all-apart (e ∷ es) key zero h inside owner name =
      let is : same_name key e.0 ≡ true = ap (λ (n : ℕ). same_name key (n, e.0.1)) owner ∙ ap (λ (w : List ℕ). same_name key (key.0, w)) name ∙ same_name-self key in
      let never : true ≡ false = sym is ∙ h.0 in cc
  all-apart (e ∷ es) key (suc i) h inside owner name = all-apart es key i h.1 (omega arith) owner name

  pub apart-at : (es : List ((ℕ × List ℕ) × V)) → Apart es → (i j : ℕ) → i < length es → j < length es → get_or (map (λ e. e.0.0) es) i 0 ≡ get_or (map (λ e. e.0.0) es) j 0 → get_or (map (λ e. e.0.1) es) i [] ≡ get_or (map (λ e. e.0.1) es) j [] → i ≡ j
  apart-at [] h i j in_i in_j owner name = absurd (omega arith)
  apart-at (e ∷ es) h zero zero in_i in_j owner name = refl
  apart-at (e ∷ es) h zero (suc j) in_i in_j owner name = absurd (all-apart es e.0 j h.0 (omega arith) (sym owner) (sym name))
  apart-at (e ∷ es) h (suc i) zero in_i in_j owner name = absurd (all-apart es e.0 i h.0 (omega arith) owner name)
  apart-at (e ∷ es) h (suc i) (suc j) in_i in_j owner name = ap suc (apart-at es h.1 i j (omega arith) (omega arith) owner name)

  all-filter : (P : (ℕ × List ℕ) × V → Type 0) (p : (ℕ × List ℕ) × V → Bool) (es : List ((ℕ × List ℕ) × V)) → AllByRecursion P es → AllByRecursion P (filter p es)
  all-filter P p [] h = tt
  all-filter P p (e ∷ es) h = elim (p e) as (λ (b : Bool). AllByRecursion P (cond b (e ∷ filter p es) (filter p es))) [ true ↦ (h.0, all-filter P p es h.1) | false ↦ all-filter P p es h.1 ]

  pub apart-filter : (p : (ℕ × List ℕ) × V → Bool) (es : List ((ℕ × List ℕ) × V)) → Apart es → Apart (filter p es)
  apart-filter p [] h = tt
  apart-filter p (e ∷ es) h = elim (p e) as (λ (b : Bool). Apart (cond b (e ∷ filter p es) (filter p es))) [ true ↦ (all-filter (λ f. same_name e.0 f.0 ≡ false) p es h.0, apart-filter p es h.1) | false ↦ apart-filter p es h.1 ]

  pub owner-filter : (k : ℕ) (es : List ((ℕ × List ℕ) × V)) (i : ℕ) → i < length (filter (λ e. nat_eq e.0.0 k) es) → get_or (map (λ e. e.0.0) (filter (λ e. nat_eq e.0.0 k) es)) i 0 ≡ k
  owner-filter k [] i inside = absurd (omega arith)
  owner-filter k (e ∷ es) zero inside =
      let others : List ((ℕ × List ℕ) × V) = filter (λ x. nat_eq x.0.0 k) es in
      elim (nat_eq e.0.0 k) as (λ (b : Bool). nat_eq e.0.0 k ≡ b → 0 < length (cond b (e ∷ others) others) → get_or (map (λ x. x.0.0) (cond b (e ∷ others) others)) 0 0 ≡ k) [
        | true ↦ λ is low. eqb-true e.0.0 k is
        | false ↦ λ is low. owner-filter k es 0 low
      ] refl inside
  owner-filter k (e ∷ es) (suc i) inside =
      let others : List ((ℕ × List ℕ) × V) = filter (λ x. nat_eq x.0.0 k) es in
      elim (nat_eq e.0.0 k) as (λ (b : Bool). suc i < length (cond b (e ∷ others) others) → get_or (map (λ x. x.0.0) (cond b (e ∷ others) others)) (suc i) 0 ≡ k) [
        | true ↦ λ low. owner-filter k es i (omega (arith, low))
        | false ↦ λ low. owner-filter k es (suc i) low
      ] inside

long-map : {X Y : Type 0} (f : X → Y) (xs : List X) → length (map f xs) ≡ length xs
long-map f [] = refl
long-map f (x ∷ xs) = let r = long-map f xs in omega (arith, r)

past : {X : Type 0} (xs : List X) (k : ℕ) (d : X) → length xs ≤ k → get_or xs k d ≡ d
past [] k d h = refl
past (x ∷ xs) zero d h = absurd (omega arith)
past (x ∷ xs) (suc k) d h = past xs k d (omega arith)

-- ---- the tree of a content

module _ (c : Content) (h : Sane c) where
  abbrev owners : List ℕ
  owners = map (λ e. e.0.0) c.children

  abbrev names : List (List ℕ)
  names = map (λ e. e.0.1) c.children

  abbrev order : List ℕ
  order = order_of c

  earlier : (k : ℕ) → k < length owners → get_or owners k 0 ≤ k
  earlier k inside = let r = earlier-at 0 c.children k h.earlier (omega (arith, inside, long-map (λ (e : (ℕ × List ℕ) × Opened). e.0.0) c.children)) in omega (arith, r)

  ranks : List ℕ
  ranks = map (λ k. rank (order_of c) k) (range_with_len 0 (length (0 ∷ map (λ (e : (ℕ × List ℕ) × Opened). e.0.0) c.children)))

  layout : IsLayout (0 ∷ owners) order ranks
  unfolding ranks
  layout = record {
    ordered = refl;
    long = length-map-range_with_len (λ k. rank order k) 0 (length (0 ∷ owners));
    ranked = λ k inside. get_or-map-range_with_len (λ n. rank order n) 0 (length (0 ∷ owners)) k k 0 inside (omega arith);
  }

  long : length order ≡ length owners + 1
  long = layout-length owners order ranks earlier layout

  seen : (k : ℕ) → k < length owners + 1 → Seen k order
  seen k low = layout-seen owners order ranks earlier layout k low

  distinct : (i j : ℕ) → i < length order → j < length order → get_or order i 0 ≡ get_or order j 0 → i ≡ j
  distinct i j in_i in_j same = once (length owners + 1) order seen (omega (arith, long)) i j in_i in_j same

  first : get_or order 0 0 ≡ 0
  first = order-first (0 ∷ owners) (omega arith)

  count : length (tree_of c) ≡ length order
  unfolding tree_of
  count = long-map (node_in c order) order

  node : (i : ℕ) → i < length order → node_at (tree_of c) i ≡ node_in c order (get_or order i 0)
  unfolding tree_of
  node i inside = get_or-map (node_in c order) order i 0 bare inside

  -- a node but the first has a number above 0
  record Later (i : ℕ) : Type 0 where
    k : ℕ
    is : get_or order i 0 ≡ suc k
    low : k < length owners

  later : (i : ℕ) → 0 < i → i < length order → Later i
  later i low inside = number (get_or order i 0) refl where
    number : (n : ℕ) → get_or order i 0 ≡ n → Later i
    number zero is = absurd (let e = distinct i 0 inside (omega (arith, inside)) (is ∙ sym first) in omega (arith, e, low))
    number (suc k) is = record { k = k; is = is; low = omega (arith, layout-inside owners order ranks earlier layout i inside, is) }

  properties_in : (n : ℕ) → (node_in c order n).properties ≡ properties_of c order n
  properties_in zero = refl
  properties_in (suc k) = refl

  properties_once : (n i j : ℕ) (d : Property ℕ) → i < length (properties_of c order n) → j < length (properties_of c order n) → (get_or (properties_of c order n) i d).name ≡ (get_or (properties_of c order n) j d).name → i ≡ j
  properties_once n i j d in_i in_j same =
      let es : List ((ℕ × List ℕ) × List (Part Label)) = filter (λ e. nat_eq e.0.0 n) c.properties in
      let kept : (ℕ × List ℕ) × List (Part Label) → Property ℕ = λ e. record { name = e.0.1; parts = map (part_by (λ l. rank order (or_root (node_of c.labels l.name)))) e.1 } in
      let none : (ℕ × List ℕ) × List (Part Label) = ((0, []), []) in
      let count_es : length (properties_of c order n) ≡ length es = long-map kept es in
      let name_at : (m : ℕ) → m < length es → (get_or (map kept es) m d).name ≡ get_or (map (λ e. e.0.1) es) m [] =
      λ m low. ap (λ (p : Property ℕ). p.name) (get_or-map kept es m none d low) ∙ sym (get_or-map (λ (e : (ℕ × List ℕ) × List (Part Label)). e.0.1) es m none [] low) in
      let low_i : i < length es = omega (arith, in_i, count_es) in
      let low_j : j < length es = omega (arith, in_j, count_es) in
      apart-at es (apart-filter (λ e. nat_eq e.0.0 n) c.properties h.single) i j low_i low_j
      (owner-filter n c.properties i low_i ∙ sym (owner-filter n c.properties j low_j))
      (sym (name_at i low_i) ∙ same ∙ name_at j low_j)

  properties_there : (k : ℕ) → k < length order → properties_at (tree_of c) k ≡ properties_of c order (get_or order k 0)
  properties_there k inside = ap (λ (n : Node). n.properties) (node k inside) ∙ properties_in (get_or order k 0)

  OnceIn : List (Property ℕ) → Type 0
  OnceIn ps = (i j : ℕ) (d : Property ℕ) → i < length ps → j < length ps → (get_or ps i d).name ≡ (get_or ps j d).name → i ≡ j

  each_once : (k : ℕ) → OnceIn (properties_at (tree_of c) k)
  unfolding OnceIn
  each_once k =
      ⊎_elim (λ inside. subst OnceIn (sym (properties_there k inside)) (properties_once (get_or order k 0)))
      (λ beyond. subst OnceIn (sym (ap (λ (n : Node). n.properties) (past (tree_of c) k bare (omega (arith, beyond, count))))) (λ i j d in_i in_j same. absurd (omega (arith, in_i))))
      (cases_lt k (length order))

  pub is_tree : IsTree (tree_of c)
  unfolding OnceIn
  is_tree = record {
    some = omega (arith, count, long);
    root = let zeroth = node 0 (omega (arith, long)) ∙ ap (node_in c order) first in (ap (λ (n : Node). n.name) zeroth, ap (λ (n : Node). n.parent) zeroth);
    parents = λ k low inside.
        let l = later k low (omega (arith, inside, count)) in
        (rank order (get_or owners l.k 0), (ap (λ (n : Node). n.parent) (node k (omega (arith, inside, count)) ∙ ap (node_in c order) l.is), layout-led owners order ranks earlier layout k l.k (omega (arith, inside, count)) l.is));
    siblings = λ i j low_i low_j in_i in_j parent name.
        let a = later i low_i (omega (arith, in_i, count)) in
        let b = later j low_j (omega (arith, in_j, count)) in
        let node_i = node i (omega (arith, in_i, count)) ∙ ap (node_in c order) a.is in
        let node_j = node j (omega (arith, in_j, count)) ∙ ap (node_in c order) b.is in
        let parents : Some (rank order (get_or owners a.k 0)) ≡ Some (rank order (get_or owners b.k 0)) = sym (ap (λ (n : Node). n.parent) node_i) ∙ parent ∙ ap (λ (n : Node). n.parent) node_j in
        let ranks_same : rank order (get_or owners a.k 0) ≡ rank order (get_or owners b.k 0) = cc in
        let owner : get_or owners a.k 0 ≡ get_or owners b.k 0 =
        sym (seen-back (get_or owners a.k 0) order (seen (get_or owners a.k 0) (omega (arith, earlier a.k a.low, a.low))))
        ∙ ap (λ (n : ℕ). get_or order n 0) ranks_same
        ∙ seen-back (get_or owners b.k 0) order (seen (get_or owners b.k 0) (omega (arith, earlier b.k b.low, b.low))) in
        let same_names : get_or names a.k [] ≡ get_or names b.k [] = sym (ap (λ (n : Node). n.name) node_i) ∙ name ∙ ap (λ (n : Node). n.name) node_j in
        let children : length owners ≡ length c.children = long-map (λ (e : (ℕ × List ℕ) × Opened). e.0.0) c.children in
        let key = apart-at c.children h.apart a.k b.k (omega (arith, a.low, children)) (omega (arith, b.low, children)) owner same_names in
        distinct i j (omega (arith, in_i, count)) (omega (arith, in_j, count)) (a.is ∙ ap suc key ∙ sym b.is);
    once = λ k i j d in_i in_j same. each_once k i j d in_i in_j same;
  }

abbrev TreeIsTree : Result (List Node) TreeFault → Type 0
TreeIsTree (Ok nodes) = IsTree nodes
TreeIsTree (Err fault) = Unit {0}

known_tree : (c : Content) → Sane c → (o : Option Label) → TreeIsTree (unless_unknown c o)
known_tree c h None = is_tree c h
known_tree c h (Some label) = tt

concluded_tree : (settings : List Setting) (fault : Option TreeFault) (c : Content) → Sane c → TreeIsTree (concluded settings fault c)
concluded_tree settings (Some fault) c h = tt
concluded_tree settings None c h = known_tree c h (find (is_unknown c) (flat_map labels_in settings))

outcome_tree : (settings : List Setting) (fault : Option TreeFault) → TreeIsTree (outcome_of settings fault)
outcome_tree settings fault = by_content (with_settings nothing settings) refl where
  by_content : (o : Result Content TreeFault) → with_settings nothing settings ≡ o → TreeIsTree (unless_fault (concluded settings fault) o)
  by_content (Ok c) is = concluded_tree settings fault c (sane settings c is)
  by_content (Err f) is = tt

pub trees_are_trees : TreesAreTrees
trees_are_trees text tokens nodes is = subst TreeIsTree is.3 (outcome_tree is.0 is.1)
