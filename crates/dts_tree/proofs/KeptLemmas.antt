-- What a tree that is kept by numbers has at a node.
use Rattle.std.proofs.Common.{◌≡◌, ℕ, zero, suc, ◌+◌, ◌-◌, ◌<◌, ◌≤◌, List, [], ◌∷◌, ◌++◌, Bool, true, false, cond, Option, Some, None, length, filter, map, take, drop, get_or, nat_eq, refl, sym, ap, ◌∙◌, arith}
use Rattle.std.specs.Prelude.{slice_range, sum_by, ◌&&◌, slice_get}
use Rattle.std.proofs.Math.Logic.{⊎_elim}
use Rattle.std.specs.List.{AllByRecursion, find, flat_map, position_or_len}
use Rattle.std.specs.Map.{lookup}
use Rattle.std.specs.Option.{option_map, option_map_or, unwrap_or}
use Rattle.std.specs.Str.{bytes_eq}
use Rattle.std.proofs.lemmas.Bool.{cases_Bool, cases_eq, cases_lt, cond-true, cond-false, eq-eqb, ne_eqb}
use Rattle.std.proofs.lemmas.List.{get_or-map, get_or_past, get_or-append-add, get_or_append_left, get_or_read, length-map, length-append, take-append-drop, drop_more, drop_all}
use Rattle.std.proofs.lemmas.List.Concat.{flat_map-append}
use Rattle.std.proofs.lemmas.List.Sums.{sum_by_from}
use mathlib.Core.List.{map-map}
use Rattle.name_map.specs.NameEntries.{same_name}
use Rattle.dts_tree.specs.declared.store.Opened.{Opened}
use Rattle.dts_tree.specs.declared.store.Span.{Span}
use Rattle.dts_tree.specs.declared.store.Settled.{Settled}
use Rattle.dts_tree.specs.declared.piece.Piece.{Piece}
use Rattle.dts_tree.specs.declared.tree.nodes.Nodes.TheInside.{Inside}
use Rattle.dts_tree.specs.Value.{Part, Property}
use Rattle.dts_tree.specs.Order.{children_from}
use Rattle.dts_tree.specs.Tree.{Node}
use Rattle.dts_tree.specs.Look.{bare, property_at, properties_at, property_count}
use Rattle.dts_tree.specs.Inside.Pieces.{parts_of}
use Rattle.dts_tree.specs.Inside.Listing.{listed_of}
use Rattle.dts_tree.specs.Inside.Kept.{property_kept, properties_kept, node_kept, nodes_kept, Kept}
use Rattle.dts_tree.proofs.LinkLemmas.{children_from-end, children_from-step}
use Rattle.dts_tree.proofs.LayoutLemmas.{layout-length, layout-inside, layout-led, under-places}
use Rattle.dts_tree.proofs.ListingLemmas.{listed_more}

-- ---- properties by places

module _ {V Y : Type 0} (f : (ℕ × List ℕ) × V → Y) (d : Y) (e0 : (ℕ × List ℕ) × V) (k : ℕ) where
  abbrev owners_in : List ((ℕ × List ℕ) × V) → List ℕ
  owners_in es = map (λ e. e.0.0) es

  abbrev owned_in : List ((ℕ × List ℕ) × V) → List ((ℕ × List ℕ) × V)
  owned_in es = filter (λ e. nat_eq e.0.0 k) es

  owned-more : (es : List ((ℕ × List ℕ) × V)) (o : ℕ) → o < length es → map (λ j. get_or (map f es) j d) (children_from (owners_in es) k (o + 1)) ≡ map f (owned_in (drop (o + 1) es)) → map (λ j. get_or (map f es) j d) (children_from (owners_in es) k o) ≡ map f (owned_in (drop o es))
  owned-more es o inside rest =
      let g : ℕ → Y = λ j. get_or (map f es) j d in
      let e = get_or es o e0 in
      let xs = children_from (owners_in es) k (o + 1) in
      let own : get_or (owners_in es) o 0 ≡ e.0.0 = get_or-map (λ e. e.0.0) es o e0 0 inside in
      let step = children_from-step (owners_in es) k o (omega (arith, inside, length-map es (λ e. e.0.0))) in
      let front : owned_in (drop o es) ≡ cond (nat_eq e.0.0 k) (e ∷ owned_in (drop (o + 1) es)) (owned_in (drop (o + 1) es)) = ap owned_in (drop_more es o e0 inside) in
      ⊎_elim
      (λ (here : nat_eq e.0.0 k ≡ true).
      ap (map g) (step ∙ cond-true _ (o ∷ xs) xs (ap (λ x. nat_eq x k) own ∙ here))
      ∙ ap (λ y. y ∷ map g xs) (get_or-map f es o e0 d inside)
      ∙ ap (λ ys. f e ∷ ys) rest
      ∙ sym (ap (map f) (front ∙ cond-true (nat_eq e.0.0 k) (e ∷ owned_in (drop (o + 1) es)) (owned_in (drop (o + 1) es)) here)))
      (λ (other : nat_eq e.0.0 k ≡ false).
      ap (map g) (step ∙ cond-false _ (o ∷ xs) xs (ap (λ x. nat_eq x k) own ∙ other))
      ∙ rest
      ∙ sym (ap (map f) (front ∙ cond-false (nat_eq e.0.0 k) (e ∷ owned_in (drop (o + 1) es)) (owned_in (drop (o + 1) es)) other)))
      (cases_Bool (nat_eq e.0.0 k))

  owned-end : (es : List ((ℕ × List ℕ) × V)) (o : ℕ) → length es ≤ o → map (λ j. get_or (map f es) j d) (children_from (owners_in es) k o) ≡ map f (owned_in (drop o es))
  owned-end es o past =
      ap (map (λ j. get_or (map f es) j d)) (children_from-end (owners_in es) k o (omega (arith, past, length-map es (λ e. e.0.0))))
      ∙ sym (ap (λ xs. map f (owned_in xs)) (drop_all o es past))

  -- what a node owns, from a place on
  owned-from : (m : ℕ) (es : List ((ℕ × List ℕ) × V)) (o : ℕ) → length es ≤ o + m → map (λ j. get_or (map f es) j d) (children_from (owners_in es) k o) ≡ map f (owned_in (drop o es))
  owned-from zero es o few = owned-end es o (omega (arith, few))
  owned-from (suc m) es o few =
      ⊎_elim (λ inside. owned-more es o inside (owned-from m es (o + 1) (omega (arith, few)))) (owned-end es o) (cases_lt o (length es))

  owned-all : (es : List ((ℕ × List ℕ) × V)) → map (λ j. get_or (map f es) j d) (children_from (owners_in es) k 0) ≡ map f (owned_in es)
  owned-all es = owned-from (length es) es 0 (omega arith)

  owned-length : (es : List ((ℕ × List ℕ) × V)) → length (children_from (owners_in es) k 0) ≡ length (owned_in es)
  owned-length es =
      sym (length-map (children_from (owners_in es) k 0) (λ j. get_or (map f es) j d))
      ∙ ap length (owned-all es)
      ∙ length-map (owned_in es) f

  owned-at : (es : List ((ℕ × List ℕ) × V)) (j : ℕ) → j < length (children_from (owners_in es) k 0) → get_or (map f (owned_in es)) j d ≡ get_or (map f es) (get_or (children_from (owners_in es) k 0) j 0) d
  owned-at es j inside =
      ap (λ ys. get_or ys j d) (sym (owned-all es))
      ∙ get_or-map (λ i. get_or (map f es) i d) (children_from (owners_in es) k 0) j 0 d inside

module _ (k : ℕ) (name : List ℕ) (pieces : List (Piece ℕ)) where
  abbrev parts_found : List (Property ℕ) → Option (List (Part ℕ))
  parts_found ps = option_map (λ (p : Property ℕ). p.parts) (find (λ (p : Property ℕ). bytes_eq name p.name) ps)

  abbrev value_found : Option Span → Option (List (Part ℕ))
  value_found o = option_map (λ (s : Span). parts_of (slice_range pieces s.from s.to)) o

  -- a property of a node is found by its owner and its name
  find-entry : (es : List ((ℕ × List ℕ) × Span)) → parts_found (properties_kept pieces es k) ≡ value_found (lookup (same_name (k, name)) es)
  find-entry [] = refl
  find-entry (e ∷ es) =
      let rest = find-entry es in
      ⊎_elim
      (λ (own : e.0.0 ≡ k).
      ap (λ b. parts_found (map (property_kept pieces) (cond b (e ∷ filter (λ e. nat_eq e.0.0 k) es) (filter (λ e. nat_eq e.0.0 k) es)))) (eq-eqb e.0.0 k own)
      ∙ elim (bytes_eq name e.0.1) as (λ (b : Bool). option_map (λ (p : Property ℕ). p.parts) (cond b (Some (property_kept pieces e)) (find (λ (p : Property ℕ). bytes_eq name p.name) (properties_kept pieces es k))) ≡ value_found (cond b (Some e.1) (lookup (same_name (k, name)) es))) [ true ↦ refl | false ↦ rest ]
      ∙ sym (ap (λ a. value_found (cond (a && bytes_eq name e.0.1) (Some e.1) (lookup (same_name (k, name)) es))) (eq-eqb k e.0.0 (sym own))))
      (λ (other : e.0.0 ≡ k → ⊥).
      ap (λ b. parts_found (map (property_kept pieces) (cond b (e ∷ filter (λ e. nat_eq e.0.0 k) es) (filter (λ e. nat_eq e.0.0 k) es)))) (ne_eqb e.0.0 k other)
      ∙ rest
      ∙ sym (ap (λ a. value_found (cond (a && bytes_eq name e.0.1) (Some e.1) (lookup (same_name (k, name)) es))) (ne_eqb k e.0.0 (λ is. other (sym is)))))
      (cases_eq e.0.0 k)

pub map-none : {X Y : Type 0} (f : X → Y) (o : Option X) → option_map f o ≡ None → o ≡ None
map-none f None is = refl
map-none f (Some x) is = absurd (cc)

pub or-root : (o : Option ℕ) → unwrap_or o 0 ≡ option_map_or (λ at. at) o 0
or-root None = refl
or-root (Some at) = refl

-- where an opened node stands
pub at-read : {K : Type 0} (es : List (K × Opened)) (k : ℕ) (o : Opened) → Some o ≡ slice_get (map (λ e. e.1) es) k → o.at ≡ get_or (map (λ e. e.1.at) es) k 0
at-read [] k o is = absurd (cc)
at-read (e ∷ es) zero o is = let same : o ≡ e.1 = cc in ap (λ (x : Opened). x.at) same
at-read (e ∷ es) (suc k) o is = at-read es k o is

pub at-there : {K : Type 0} (es : List (K × Opened)) (k : ℕ) → k < length es → None ≡ slice_get (map (λ e. e.1) es) k → ⊥
at-there [] k inside is = omega (arith, inside)
at-there (e ∷ es) zero inside is = absurd (cc)
at-there (e ∷ es) (suc k) inside is = at-there es k (omega (arith, inside)) is

all-drop : {X : Type 0} (P : X → Type 0) (n : ℕ) (xs : List X) → AllByRecursion P xs → AllByRecursion P (drop n xs)
all-drop P zero xs h = h
all-drop P (suc n) [] h = tt
all-drop P (suc n) (x ∷ xs) h = all-drop P n xs h.1

all-take : {X : Type 0} (P : X → Type 0) (n : ℕ) (xs : List X) → AllByRecursion P xs → AllByRecursion P (take n xs)
all-take P zero xs h = tt
all-take P (suc n) [] h = tt
all-take P (suc n) (x ∷ xs) h = (h.0, all-take P n xs h.1)

pub all-slice : {X : Type 0} (P : X → Type 0) (i j : ℕ) (xs : List X) → AllByRecursion P xs → AllByRecursion P (slice_range xs i j)
all-slice P i j xs h = all-take P (j - i) (drop i xs) (all-drop P i xs h)

-- ---- the nodes

module _ (t : Inside) (h : Kept t.store t.pieces.items t.layout.order.items t.layout.ranks.items t.listing.places.items t.listing.starts.items) (nodes : List Node) (is : nodes_kept t.store t.pieces.items t.layout.order.items ≡ nodes) where
  abbrev store : Settled
  store = t.store

  abbrev pieces : List (Piece ℕ)
  pieces = t.pieces.items

  abbrev order : List ℕ
  order = t.layout.order.items

  abbrev ranks : List ℕ
  ranks = t.layout.ranks.items

  abbrev places : List ℕ
  places = t.listing.places.items

  abbrev starts : List ℕ
  starts = t.listing.starts.items

  abbrev owners : List ℕ
  owners = map (λ e. e.0.0) store.children

  abbrev holders : List ℕ
  holders = map (λ e. e.0.0) store.properties

  owners-earlier : (k : ℕ) → k < length owners → get_or owners k 0 ≤ k
  owners-earlier k inside = h.earlier k (omega (arith, inside, length-map store.children (λ e. e.0.0)))

  pub kept-whole : length order ≡ length store.children + 1
  kept-whole = layout-length owners order ranks owners-earlier h.layout ∙ ap (λ (n : ℕ). n + 1) (length-map store.children (λ e. e.0.0))

  pub kept-count : length nodes ≡ length order
  unfolding nodes_kept
  kept-count = ap length (sym is) ∙ length-map order (node_kept store pieces order)

  kept-inside : (i : ℕ) → i < length order → get_or order i 0 ≤ length store.children
  kept-inside i inside = omega (arith, layout-inside owners order ranks owners-earlier h.layout i inside, length-map store.children (λ e. e.0.0))

  kept-node : (i : ℕ) → i < length order → get_or nodes i bare ≡ node_kept store pieces order (get_or order i 0)
  unfolding nodes_kept
  kept-node i inside = ap (λ ns. get_or ns i bare) (sym is) ∙ get_or-map (node_kept store pieces order) order i 0 bare inside

  pub kept-root : (i v : ℕ) → i < length order → v ≡ get_or order i 0 → v ≡ 0 → get_or nodes i bare ≡ node_kept store pieces order 0
  kept-root i v inside read root = kept-node i inside ∙ ap (node_kept store pieces order) (sym read ∙ root)

  pub kept-child : (i v : ℕ) → i < length order → v ≡ get_or order i 0 → (v ≡ 0 → ⊥) → get_or nodes i bare ≡ node_kept store pieces order (suc (v - 1))
  kept-child i v inside read child = let up : v ≡ suc (v - 1) = omega (arith, child) in kept-node i inside ∙ ap (node_kept store pieces order) (sym read ∙ up)

  pub kept-below : (i v : ℕ) → i < length order → v ≡ get_or order i 0 → (v ≡ 0 → ⊥) → v - 1 < length store.children
  kept-below i v inside read child = omega (arith, kept-inside i inside, read, child)

  pub kept-led : (i v : ℕ) → i < length order → v ≡ get_or order i 0 → (v ≡ 0 → ⊥) → position_or_len (nat_eq (get_or owners (v - 1) 0)) order < i
  kept-led i v inside read child = let up : v ≡ suc (v - 1) = omega (arith, child) in layout-led owners order ranks owners-earlier h.layout i (v - 1) inside (sym read ∙ up)

  -- the parent's number, which has a rank
  pub kept-parent : (k p : ℕ) → k < length store.children → p ≡ get_or owners k 0 → p < length ranks
  kept-parent k p inside read = omega (arith, h.earlier k inside, read, h.layout.long, inside, length-map store.children (λ e. e.0.0))

  kept-rank : (p : ℕ) → p < length ranks → get_or ranks p 0 ≡ position_or_len (nat_eq p) order
  kept-rank p inside = h.layout.ranked p (omega (arith, inside, h.layout.long))

  pub kept-parent-rank : (i v p r : ℕ) → i < length order → v ≡ get_or order i 0 → (v ≡ 0 → ⊥) → get_or owners (v - 1) 0 ≡ p → r ≡ get_or ranks p r → r ≡ position_or_len (nat_eq (get_or owners (v - 1) 0)) order
  kept-parent-rank i v p r inside read child owner ranked =
      let in_p : p < length ranks = kept-parent (v - 1) p (kept-below i v inside read child) (sym owner) in
      get_or_read ranks p r in_p ranked 0 ∙ kept-rank p in_p ∙ ap (λ (k : ℕ). position_or_len (nat_eq k) order) (sym owner)

  -- ---- properties

  node-properties : (k : ℕ) → (node_kept store pieces order k).properties ≡ properties_kept pieces store.properties k
  node-properties zero = refl
  node-properties (suc k) = refl

  kept-properties : (i : ℕ) → i < length order → properties_at nodes i ≡ properties_kept pieces store.properties (get_or order i 0)
  kept-properties i inside = ap (λ (n : Node). n.properties) (kept-node i inside) ∙ node-properties (get_or order i 0)

  abbrev no_entry : (ℕ × List ℕ) × Span
  no_entry = ((0, []), record { from = 0; to = 0 })

  abbrev own : ℕ → List ℕ
  own k = children_from holders k 0

  owns : (k : ℕ) → length (own k) ≡ length (properties_kept pieces store.properties k)
  owns k = owned-length (λ e. e.0.1) [] no_entry k store.properties ∙ sym (length-map (filter (λ e. nat_eq e.0.0 k) store.properties) (property_kept pieces))

  own-length : (i : ℕ) → i < length order → length (properties_at nodes i) ≡ length (own (get_or order i 0))
  own-length i inside = ap length (kept-properties i inside) ∙ sym (owns (get_or order i 0))

  pub kept-starts : length starts ≡ length order + 1
  kept-starts = h.listing.long

  pub kept-next : (i : ℕ) → i < length order → get_or starts (i + 1) 0 ≡ get_or starts i 0 + length (properties_at nodes i)
  kept-next i inside =
      let at : get_or starts i 0 ≡ length (listed_of holders (take i order)) = h.listing.begins i (omega (arith, inside)) in
      let next : get_or starts (i + 1) 0 ≡ length (listed_of holders (take (i + 1) order)) = h.listing.begins (i + 1) (omega (arith, inside)) in
      let more = ap length (listed_more holders order i inside) in
      omega (arith, at, next, more, length-append (listed_of holders (take i order)) (own (get_or order i 0)), own-length i inside)

  -- the listing around the properties of a node
  listing-split : (i : ℕ) → i < length order → places ≡ (listed_of holders (take i order) ++ own (get_or order i 0)) ++ listed_of holders (drop (i + 1) order)
  listing-split i inside =
      h.listing.whole
      ∙ ap (listed_of holders) (sym (take-append-drop (i + 1) order))
      ∙ flat_map-append own (take (i + 1) order) (drop (i + 1) order)
      ∙ ap (λ xs. xs ++ listed_of holders (drop (i + 1) order)) (listed_more holders order i inside)

  pub kept-end : (i : ℕ) → i < length order → get_or starts (i + 1) 0 ≤ length places
  kept-end i inside =
      let front = listed_of holders (take i order) in
      let next : get_or starts (i + 1) 0 ≡ length (listed_of holders (take (i + 1) order)) = h.listing.begins (i + 1) (omega (arith, inside)) in
      let more = ap length (listed_more holders order i inside) in
      omega (arith, next, more, ap length (listing-split i inside), length-append (front ++ own (get_or order i 0)) (listed_of holders (drop (i + 1) order)))

  place-at : (i j : ℕ) → i < length order → j < length (own (get_or order i 0)) → get_or places (get_or starts i 0 + j) 0 ≡ get_or (own (get_or order i 0)) j 0
  place-at i j inside there =
      let front = listed_of holders (take i order) in
      let mine = own (get_or order i 0) in
      let at : get_or starts i 0 ≡ length front = h.listing.begins i (omega (arith, inside)) in
      ap (λ xs. get_or xs (get_or starts i 0 + j) 0) (listing-split i inside)
      ∙ get_or_append_left (front ++ mine) (listed_of holders (drop (i + 1) order)) 0 (get_or starts i 0 + j) (omega (arith, at, there, length-append front mine))
      ∙ ap (λ (n : ℕ). get_or (front ++ mine) (n + j) 0) at
      ∙ get_or-append-add front mine j 0

  pub kept-place : (i j p : ℕ) → i < length order → j < length (properties_at nodes i) → p ≡ get_or places (get_or starts i 0 + j) 0 → p < length store.properties
  kept-place i j p inside there read =
      let mine : j < length (own (get_or order i 0)) = omega (arith, there, own-length i inside) in
      omega (arith, read, place-at i j inside mine, under-places holders (get_or order i 0) j mine, length-map store.properties (λ e. e.0.0))

  pub kept-name : (i j p : ℕ) → i < length order → j < length (properties_at nodes i) → p ≡ get_or places (get_or starts i 0 + j) 0 → get_or (map (λ (q : Property ℕ). q.name) (properties_at nodes i)) j [] ≡ get_or (map (λ e. e.0.1) store.properties) p []
  kept-name i j p inside there read =
      let mine : j < length (own (get_or order i 0)) = omega (arith, there, own-length i inside) in
      ap (λ ps. get_or (map (λ (q : Property ℕ). q.name) ps) j []) (kept-properties i inside)
      ∙ ap (λ ns. get_or ns j []) (map-map (λ (q : Property ℕ). q.name) (property_kept pieces) (filter (λ e. nat_eq e.0.0 (get_or order i 0)) store.properties))
      ∙ owned-at (λ e. e.0.1) [] no_entry (get_or order i 0) store.properties j mine
      ∙ ap (λ (n : ℕ). get_or (map (λ e. e.0.1) store.properties) n []) (sym (read ∙ place-at i j inside mine))

  count-properties : (xs : List ℕ) → sum_by (λ (n : Node). length n.properties) (map (node_kept store pieces order) xs) ≡ length (flat_map own xs)
  count-properties [] = refl
  count-properties (k ∷ ks) =
      let here : length (node_kept store pieces order k).properties ≡ length (own k) = ap length (node-properties k) ∙ sym (owns k) in
      omega (arith, sum_by_from (λ (n : Node). length n.properties) (0 + length (node_kept store pieces order k).properties) (map (node_kept store pieces order) ks), count-properties ks, here, length-append (own k) (flat_map own ks))

  pub kept-property_count : length places ≡ property_count nodes
  unfolding nodes_kept
  kept-property_count = ap length h.listing.whole ∙ sym (count-properties order) ∙ ap property_count is

  -- the value of a property by its name
  pub kept-value : (i v : ℕ) (name : List ℕ) → i < length order → v ≡ get_or order i 0 → option_map (λ (p : Property ℕ). p.parts) (property_at nodes i name) ≡ option_map (λ (s : Span). parts_of (slice_range pieces s.from s.to)) (lookup (same_name (v, name)) store.properties)
  kept-value i v name inside read =
      ap (parts_found v name pieces) (kept-properties i inside ∙ ap (properties_kept pieces store.properties) (sym read))
      ∙ find-entry v name pieces store.properties

  -- there is none past the nodes
  pub kept-past : (i : ℕ) (name : List ℕ) → length order ≤ i → property_at nodes i name ≡ None
  kept-past i name past = ap (λ (n : Node). find (λ (p : Property ℕ). bytes_eq name p.name) n.properties) (get_or_past nodes i bare (omega (arith, past, kept-count)))
