-- What a reader keeps while it goes on.
use Rattle.std.proofs.Common.{Vec, Global, ◌≡◌, ℕ, zero, suc, ◌+◌, ◌-◌, ◌<◌, ◌≤◌, List, [], ◌∷◌, ◌++◌, Bool, true, false, cond, Option, Some, None, Result, Ok, Err, length, map, fold, drop, reverse, refl, sym, ap, ◌∙◌, subst, arith}
use Rattle.std.specs.List.{AllByRecursion}
use Rattle.std.specs.Prelude.{slice_range, slice_get, slice_index_or}
use Rattle.std.specs.Map.{lookup}
use Rattle.std.specs.Option.{option_map}
use Rattle.std.proofs.lemmas.List.{length-append, length-take, drop_all, reverse-append}
use Rattle.ordered_map.specs.Entries.{insert_entry, place_of}
use Rattle.name_map.specs.NameEntries.{same_name, keep_entry, size_of}
use Rattle.name_map.proofs.KeptLemmas.{size-length}
use Rattle.dts_lex.specs.declared.token.Token.{Token}
use Rattle.std.specs.Prelude.{nat_lt}
use Rattle.std.proofs.lemmas.Bool.{lt-ltb}
use Rattle.dts_tree.specs.declared.fault.TreeFault.{TreeFault}
use Rattle.dts_tree.specs.declared.fault.TreeFault.TheVariants.{TooDeep}
use Rattle.dts_tree.specs.declared.piece.Piece.{Piece}
use Rattle.dts_tree.specs.declared.piece.Place.{Place}
use Rattle.dts_tree.specs.declared.reading.reader.Reader.{Reader}
use Rattle.dts_tree.specs.declared.reading.spot.Spot.{Spot}
use Rattle.dts_tree.specs.declared.reading.spot.Spot.TheVariants as spot
use Rattle.dts_tree.specs.declared.reading.symbol.Symbol.{Symbol}
use Rattle.dts_tree.specs.declared.store.Opened.{Opened}
use Rattle.dts_tree.specs.declared.store.Span.{Span}
use Rattle.dts_tree.specs.declared.store.Store.{Store}
use Rattle.dts_tree.specs.Value.{Part, part_by}
use Rattle.dts_tree.specs.Setting.{Label}
use Rattle.dts_tree.specs.Content.{Content, nothing, depth_of, elsewhere, child_of, or_root, with_labels, with_child, opened, unless_fault}
use Rattle.dts_tree.specs.Inside.Pieces.{with_piece, parts_of, piece_by, label_at}
use Rattle.dts_tree.specs.Inside.Stored.{content_of, value_in, values_kept, labels_kept}
use Rattle.dts_tree.specs.Inside.View.{View, view_set, view_start}
use Rattle.dts_tree.specs.Inside.State.{label_of}
use Rattle.dts_tree.specs.Inside.View as view
use Rattle.dts_tree.specs.Inside.Reader.{spot_of, label_in, name_in, view_by, Held, EarlierFrom, Ready, Went, pending, waiting_size}
use Rattle.dts_tree.proofs.PieceLemmas.{values-more, parts-more, labels-more, parts_of-none, range-rest}

-- ---- entries that are put

module _ {V : Type 0} (P : (ℕ × List ℕ) × V → Type 0) where
  pub all-keep : (es : List ((ℕ × List ℕ) × V)) (key : ℕ × List ℕ) (v : V) → AllByRecursion P es → P (key, v) → AllByRecursion P (keep_entry same_name es key v)
  all-keep [] key v h new = (new, tt)
  all-keep (e ∷ es) key v h new =
      elim (same_name key e.0) as (λ (b : Bool). AllByRecursion P (cond b (e ∷ es) (e ∷ keep_entry same_name es key v))) [ true ↦ h | false ↦ (h.0, all-keep es key v h.1 new) ]

  pub all-insert : (es : List ((ℕ × List ℕ) × V)) (key : ℕ × List ℕ) (v : V) → AllByRecursion P es → P (key, v) → ((e : (ℕ × List ℕ) × V) → P e → P (e.0, v)) → AllByRecursion P (insert_entry same_name es key v)
  all-insert [] key v h new other = (new, tt)
  all-insert (e ∷ es) key v h new other =
      elim (same_name key e.0) as (λ (b : Bool). AllByRecursion P (cond b ((e.0, v) ∷ es) (e ∷ insert_entry same_name es key v))) [ true ↦ (other e h.0, h.1) | false ↦ (h.0, all-insert es key v h.1 new other) ]

  pub all-push : (es : List ((ℕ × List ℕ) × V)) (e : (ℕ × List ℕ) × V) → AllByRecursion P es → P e → AllByRecursion P (es ++ e ∷ [])
  all-push [] e h last = (last, tt)
  all-push (x ∷ xs) e h last = (h.0, all-push xs e h.1 last)

pub all-weaker : {X : Type 0} (P Q : X → Type 0) (xs : List X) → ((x : X) → P x → Q x) → AllByRecursion P xs → AllByRecursion Q xs
all-weaker P Q [] w h = tt
all-weaker P Q (x ∷ xs) w h = (w x h.0, all-weaker P Q xs w h.1)

pub numbers-push : (m : ℕ) (ks : List ℕ) (k : ℕ) → AllByRecursion (λ x. x ≤ m) ks → k ≤ m → AllByRecursion (λ x. x ≤ m) (ks ++ k ∷ [])
numbers-push m [] k h last = (last, tt)
numbers-push m (x ∷ xs) k h last = (h.0, numbers-push m xs k h.1 last)

pub numbers-front : (m : ℕ) (ks : List ℕ) (k : ℕ) → AllByRecursion (λ x. x ≤ m) (ks ++ k ∷ []) → AllByRecursion (λ x. x ≤ m) ks × (k ≤ m)
numbers-front m [] k h = (tt, h.0)
numbers-front m (x ∷ xs) k h = let r = numbers-front m xs k h.1 in ((h.0, r.0), r.1)

module _ {V : Type 0} where
  pub length-keep : (es : List ((ℕ × List ℕ) × V)) (key : ℕ × List ℕ) (v : V) → (length es ≤ length (keep_entry same_name es key v)) × (length (keep_entry same_name es key v) ≤ length es + 1)
  length-keep [] key v = (omega arith, omega arith)
  length-keep (e ∷ es) key v =
      elim (same_name key e.0) as (λ (b : Bool). (length (e ∷ es) ≤ length (cond b (e ∷ es) (e ∷ keep_entry same_name es key v))) × (length (cond b (e ∷ es) (e ∷ keep_entry same_name es key v)) ≤ length (e ∷ es) + 1)) [
        | true ↦ (omega arith, omega arith)
        | false ↦ (let r = length-keep es key v in (omega (arith, r.0), omega (arith, r.1)))
      ]

  -- an entry that is put makes its name's bytes and one more at most
  pub size-keep : (es : List ((ℕ × List ℕ) × V)) (key : ℕ × List ℕ) (v : V) → size_of (keep_entry same_name es key v) ≤ size_of es + (length key.1 + 1)
  size-keep [] key v = omega arith
  size-keep (e ∷ es) key v =
      elim (same_name key e.0) as (λ (b : Bool). size_of (cond b (e ∷ es) (e ∷ keep_entry same_name es key v)) ≤ size_of (e ∷ es) + (length key.1 + 1)) [
        | true ↦ omega arith
        | false ↦ omega (arith, size-keep es key v)
      ]

  pub size-insert : (es : List ((ℕ × List ℕ) × V)) (key : ℕ × List ℕ) (v : V) → size_of (insert_entry same_name es key v) ≤ size_of es + (length key.1 + 1)
  size-insert [] key v = omega arith
  size-insert (e ∷ es) key v =
      elim (same_name key e.0) as (λ (b : Bool). size_of (cond b ((e.0, v) ∷ es) (e ∷ insert_entry same_name es key v)) ≤ size_of (e ∷ es) + (length key.1 + 1)) [
        | true ↦ omega arith
        | false ↦ omega (arith, size-insert es key v)
      ]

  pub place-inside : (p : ℕ × List ℕ → Bool) (es : List ((ℕ × List ℕ) × V)) (k : ℕ) → place_of p es ≡ Some k → k < length es
  place-inside p [] k is = absurd (let e : None ≡ Some k = is in cc)
  place-inside p (e ∷ es) k is =
      elim (p e.0) as (λ (b : Bool). cond b (Some 0) (option_map (λ n. n + 1) (place_of p es)) ≡ Some k → k < length (e ∷ es)) [
        | true ↦ λ h. (let z : 0 ≡ k = cc in omega (arith, z))
        | false ↦ λ h. later (place_of p es) h (λ n there. place-inside p es n there)
      ] is where
        later : (o : Option ℕ) → option_map (λ n. n + 1) o ≡ Some k → ((n : ℕ) → o ≡ Some n → n < length es) → k < length (e ∷ es)
        later None h inside = absurd (let no : None ≡ Some k = h in cc)
        later (Some n) h inside = let z : n + 1 ≡ k = cc in omega (arith, z, inside n refl)

pub earlier-keep : (k : ℕ) (es : List ((ℕ × List ℕ) × Opened)) (key : ℕ × List ℕ) (v : Opened) → EarlierFrom k es → key.0 ≤ k + length es → EarlierFrom k (keep_entry same_name es key v)
earlier-keep k [] key v h low = (omega arith, tt)
earlier-keep k (e ∷ es) key v h low =
    elim (same_name key e.0) as (λ (b : Bool). EarlierFrom k (cond b (e ∷ es) (e ∷ keep_entry same_name es key v))) [ true ↦ h | false ↦ (h.0, earlier-keep (k + 1) es key v h.1 (omega arith)) ]

-- a map over the values of entries
pub map-insert : {V W : Type 0} (f : V → W) (es : List ((ℕ × List ℕ) × V)) (key : ℕ × List ℕ) (v : V) → map (λ e. (e.0, f e.1)) (insert_entry same_name es key v) ≡ insert_entry same_name (map (λ e. (e.0, f e.1)) es) key (f v)
map-insert f [] key v = refl
map-insert f (e ∷ es) key v =
    elim (same_name key e.0) as (λ (b : Bool). map (λ e. (e.0, f e.1)) (cond b ((e.0, v) ∷ es) (e ∷ insert_entry same_name es key v)) ≡ cond b ((e.0, f v) ∷ map (λ e. (e.0, f e.1)) es) ((e.0, f e.1) ∷ insert_entry same_name (map (λ e. (e.0, f e.1)) es) key (f v))) [
      | true ↦ refl
      | false ↦ ap (λ xs. (e.0, f e.1) ∷ xs) (map-insert f es key v)
    ]

-- ---- pieces that are put

module _ (first : ℕ) (ps : List (Piece Place)) (open_ : List ℕ) (store : Store) (h : Held first ps open_ store) where
  pub held_more : (now qs : List (Piece Place)) → now ≡ ps ++ qs → Held first now open_ store
  held_more now qs is =
      let longer : length ps ≤ length now = omega (arith, ap length is, length-append ps qs) in
      record {
        from = omega (arith, h.from, longer);
        bodies = h.bodies;
        earlier = h.earlier;
        labels = h.labels;
        owners = h.owners;
        ranges = all-weaker _ _ store.properties (λ e low. omega (arith, low, longer)) h.ranges;
      }

  -- the view behind more pieces
  pub view_more : (text : List ℕ) (now qs : List (Piece Place)) (at : Spot) (waiting : List Token) (parts : List (Part Label)) (refs : List Label) → now ≡ ps ++ qs → parts ≡ fold with_piece (map (part_by (label_at text)) (parts_of (drop first ps))) (map (piece_by (label_at text)) qs) → refs ≡ labels_kept text ps ++ labels_kept text qs → record { spot = spot_of text at; bodies = reverse open_; waiting = map (label_in text) waiting; parts = parts; refs = refs; content = content_of text ps store } ≡ view_by text at open_ waiting first now store
  view_more text now qs at waiting parts refs is of_parts of_refs =
      let c : Content = content_of text ps store in
      let bodies : List ℕ = reverse open_ in
      let labels : List Label = map (label_in text) waiting in
      ap (λ (xs : List (Part Label)). record { spot = spot_of text at; bodies = bodies; waiting = labels; parts = xs; refs = refs; content = c }) (of_parts ∙ sym (parts-more text first ps qs h.from))
      ∙ ap (λ (ls : List Label). record { spot = spot_of text at; bodies = bodies; waiting = labels; parts = map (part_by (label_at text)) (parts_of (drop first (ps ++ qs))); refs = ls; content = c }) (of_refs ∙ sym (labels-more text ps qs))
      ∙ ap (λ (es : List ((ℕ × List ℕ) × List (Part Label))). record { spot = spot_of text at; bodies = bodies; waiting = labels; parts = map (part_by (label_at text)) (parts_of (drop first (ps ++ qs))); refs = labels_kept text (ps ++ qs); content = record { root_at = store.root_at; children = store.children; labels = store.labels; properties = es } }) (sym (values-more text ps qs store.properties h.ranges))
      ∙ ap (λ (xs : List (Piece Place)). view_by text at open_ waiting first xs store) (sym is)

-- ---- a property that is set

module _ (first : ℕ) (ps : List (Piece Place)) (open_ : List ℕ) (store : Store) (h : Held first ps open_ store) (node : ℕ) (name : List ℕ) (inside : node ≤ length store.children) where
  abbrev span : Span
  span = record { from = first; to = length ps }

  abbrev set_store : List ((ℕ × List ℕ) × Span) → Store
  set_store properties = record { root_at = store.root_at; children = store.children; labels = store.labels; properties = properties }

  pub held_set : (now : List ((ℕ × List ℕ) × Span)) → now ≡ insert_entry same_name store.properties (node, name) span → Held (length ps) ps open_ (set_store now)
  held_set now is = record {
    from = omega arith;
    bodies = h.bodies;
    earlier = h.earlier;
    labels = h.labels;
    owners = subst (AllByRecursion (λ e. e.0.0 ≤ length store.children)) (sym is) (all-insert (λ e. e.0.0 ≤ length store.children) store.properties (node, name) span h.owners inside (λ e low. low));
    ranges = subst (AllByRecursion (λ e. e.1.to ≤ length ps)) (sym is) (all-insert (λ e. e.1.to ≤ length ps) store.properties (node, name) span h.ranges (omega arith) (λ e low. omega arith));
  }

  pub view_set_is : (text : List ℕ) (was at : Spot) (waiting : List Token) (now : List ((ℕ × List ℕ) × Span)) → spot_of text at ≡ view.Inside → node ≡ view.here (reverse open_) → now ≡ insert_entry same_name store.properties (node, name) span → view_set (view_by text was open_ waiting first ps store) name ≡ view_by text at open_ waiting (length ps) ps (set_store now)
  view_set_is text was at waiting now in_ here is =
      let f = value_in text ps in
      let parts : List (Part Label) = map (part_by (label_at text)) (parts_of (drop first ps)) in
      let old : List ((ℕ × List ℕ) × List (Part Label)) = map (λ e. (e.0, f e.1)) store.properties in
      let value : f span ≡ parts = ap (λ xs. map (part_by (label_at text)) (parts_of xs)) (range-rest first ps) in
      let all : insert_entry same_name old (view.here (reverse open_), name) parts ≡ map (λ e. (e.0, f e.1)) now =
      ap (λ k. insert_entry same_name old (k, name) parts) (sym here)
      ∙ ap (λ v. insert_entry same_name old (node, name) v) (sym value)
      ∙ sym (map-insert f store.properties (node, name) span)
      ∙ ap (map (λ e. (e.0, f e.1))) (sym is) in
      let none : [] ≡ map (part_by (label_at text)) (parts_of (drop (length ps) ps)) = sym (ap (λ xs. map (part_by (label_at text)) (parts_of xs)) (drop_all (length ps) ps (omega arith)) ∙ ap (map (part_by (label_at text))) parts_of-none) in
      ap (λ (es : List ((ℕ × List ℕ) × List (Part Label))). record { spot = view.Inside; bodies = reverse open_; waiting = map (label_in text) waiting; parts = []; refs = labels_kept text ps; content = record { root_at = store.root_at; children = store.children; labels = store.labels; properties = es } }) all
      ∙ ap (λ (xs : List (Part Label)). record { spot = view.Inside; bodies = reverse open_; waiting = map (label_in text) waiting; parts = xs; refs = labels_kept text ps; content = content_of text ps (set_store now) }) none
      ∙ ap (λ (s : view.Spot). record { spot = s; bodies = reverse open_; waiting = map (label_in text) waiting; parts = map (part_by (label_at text)) (parts_of (drop (length ps) ps)); refs = labels_kept text ps; content = content_of text ps (set_store now) }) (sym in_)

-- ---- bodies

pub reverse-push : (ks : List ℕ) (k : ℕ) → reverse (ks ++ k ∷ []) ≡ k ∷ reverse ks
reverse-push ks k = reverse-append ks (k ∷ [])

-- ---- what was read by one token

module _ (text inner : List ℕ) (t : Token) (s : Symbol) (r : Reader) (ready : Ready text inner t s r) where
  -- pieces were put
  pub went_more : (v : Vec (Piece Place) Global) (qs : List (Piece Place)) (at : Spot) (parts : List (Part Label)) (refs : List Label) → v.items ≡ r.pieces.items ++ qs → parts ≡ fold with_piece (map (part_by (label_at text)) (parts_of (drop r.from r.pieces.items))) (map (piece_by (label_at text)) qs) → refs ≡ labels_kept text r.pieces.items ++ labels_kept text qs → (size : ℕ) → pending r.spot ≡ size → pending at ≡ size
      → Went (Ok (record { spot = spot_of text at; bodies = reverse r.bodies.items; waiting = map (label_in text) r.waiting.items; parts = parts; refs = refs; content = content_of text r.pieces.items r.store })) text t.end (record { alloc = r.alloc; spot = at; bodies = r.bodies; waiting = r.waiting; from = r.from; pieces = v; store = r.store })
  went_more v qs at parts refs is of_parts of_refs size was now = record {
    view = ap Ok (view_more r.from r.pieces.items r.bodies.items r.store ready.kept text v.items qs at r.waiting.items parts refs is of_parts of_refs);
    kept = held_more r.from r.pieces.items r.bodies.items r.store ready.kept v.items qs is;
    counted = (omega (arith, ready.counted.0, ready.token.0, was, now), omega (arith, ready.counted.1, ready.token.0, was, now), omega (arith, ready.counted.2, ready.token.0, was, now));
  }

-- a label by its place
pub label_is : (text inner : List ℕ) (t : Token) (p : Place) → inner ≡ slice_range text (t.start + 1) t.end → p.at ≡ t.start → p.end ≡ t.end → label_of inner t.start ≡ label_at text p
label_is text inner t p is at end =
    ap (λ (n : List ℕ). label_of n t.start) (is ∙ ap (λ (k : ℕ). slice_range text (k + 1) t.end) (sym at) ∙ ap (λ (k : ℕ). slice_range text (p.at + 1) k) (sym end))
    ∙ ap (label_of (slice_range text (p.at + 1) p.end)) (sym at)

-- before the text
pub new_view : (text bodies : List ℕ) (waiting : List Token) (pieces : List (Piece Place)) (store : Store) → bodies ≡ [] → waiting ≡ [] → pieces ≡ [] → store.root_at ≡ None → store.children ≡ [] → store.labels ≡ [] → store.properties ≡ [] → view_by text spot.Start bodies waiting 0 pieces store ≡ view_start
unfolding view_start nothing parts_of
new_view text bodies waiting pieces store b w p root children labels properties = rw (b, w, p, root, children, labels, properties) refl

-- the value of an entry that is there
pub lookup-all : {V : Type 0} (P : V → Type 0) (p : ℕ × List ℕ → Bool) (es : List ((ℕ × List ℕ) × V)) (v : V) → AllByRecursion (λ e. P e.1) es → lookup p es ≡ Some v → P v
lookup-all P p [] v h is = absurd (let e : None ≡ Some v = is in cc)
lookup-all P p (e ∷ es) v h is =
    elim (p e.0) as (λ (b : Bool). cond b (Some e.1) (lookup p es) ≡ Some v → P v) [
      | true ↦ λ first. (let same : e.1 ≡ v = cc in subst P same h.0)
      | false ↦ λ later. lookup-all P p es v h.1 later
    ] is

-- ---- depths

pub depth-there : (es : List ((ℕ × List ℕ) × Opened)) (k : ℕ) (o : Opened) → Some o ≡ slice_get (map (λ e. e.1) es) k → slice_index_or (map (λ e. e.1.depth) es) k 0 ≡ o.depth
depth-there [] k o is = absurd (let e : Some o ≡ None = is in cc)
depth-there (e ∷ es) zero o is = let same : o ≡ e.1 = cc in ap (λ (x : Opened). x.depth) (sym same)
depth-there (e ∷ es) (suc k) o is = depth-there es k o is

pub depth-missing : (es : List ((ℕ × List ℕ) × Opened)) (k : ℕ) → None ≡ slice_get (map (λ e. e.1) es) k → slice_index_or (map (λ e. e.1.depth) es) k 0 ≡ 0
depth-missing [] k is = refl
depth-missing (e ∷ es) zero is = absurd (let no : None ≡ Some e.1 = is in cc)
depth-missing (e ∷ es) (suc k) is = depth-missing es k is

pub depth-some : (es : List ((ℕ × List ℕ) × Opened)) (node : ℕ) → 1 ≤ node → depth_of es node ≡ slice_index_or (map (λ e. e.1.depth) es) (node - 1) 0
depth-some es zero h = absurd (omega arith)
depth-some es (suc k) h = let e : k ≡ suc k - 1 = omega arith in ap (λ (n : ℕ). slice_index_or (map (λ e. e.1.depth) es) n 0) e

-- ---- a child that is opened

pub labels-all : (m node : ℕ) (ls : List Label) (labels : List ((ℕ × List ℕ) × ℕ)) → node ≤ m → AllByRecursion (λ e. e.1 ≤ m) labels → AllByRecursion (λ e. e.1 ≤ m) (with_labels labels node ls)
labels-all m node [] labels low h = h
labels-all m node (l ∷ ls) labels low h = labels-all m node ls (keep_entry same_name labels (0, l.name) node) low (all-keep (λ e. e.1 ≤ m) labels (0, l.name) node h low)

module _ (text : List ℕ) (was : Spot) (bodies : List ℕ) (waiting : List Token) (first : ℕ) (ps : List (Piece Place)) (store : Store) (word : List ℕ) (at depth place : ℕ) (children : List ((ℕ × List ℕ) × Opened)) (labels : List ((ℕ × List ℕ) × ℕ)) where
  abbrev labels_waiting : List Label
  labels_waiting = map (label_in text) waiting

  abbrev opened_store : Store
  opened_store = record { root_at = store.root_at; children = children; labels = labels; properties = store.properties }

  abbrev new_child : Opened
  new_child = record { at = at; depth = depth + 1 }

  -- the view behind the brace of a child of the node k
  abbrev opened_view : List ((ℕ × List ℕ) × Opened) → List ((ℕ × List ℕ) × ℕ) → ℕ → View
  opened_view es ls node = record {
    spot = view.Inside;
    bodies = node ∷ reverse bodies;
    waiting = [];
    parts = map (part_by (label_at text)) (parts_of (drop first ps));
    refs = labels_kept text ps;
    content = record { root_at = store.root_at; children = es; labels = ls; properties = values_kept text ps store.properties };
  }

  -- what is known where the child of a parent was opened
  pub record IsOpened (parent : ℕ) : Type 0 where
    pub free : None ≡ elsewhere store.labels (child_of store.children parent word) labels_waiting
    pub deep : depth ≡ depth_of store.children parent
    pub shallow : depth < 32
    pub put : children ≡ keep_entry same_name store.children (parent, word) new_child
    pub there : place_of (same_name (parent, word)) children ≡ Some place
    pub labelled : labels ≡ with_labels store.labels (place + 1) labels_waiting

  opened-at : (k : ℕ) → k ≡ view.here (reverse bodies) → IsOpened k → view.open_child (view_by text was bodies waiting first ps store) word at ≡ Ok (opened_view children labels (place + 1))
  opened-at k here o =
      let c : Content = content_of text ps store in
      let v : View = view_by text was bodies waiting first ps store in
      let put : Opened → List ((ℕ × List ℕ) × Opened) = λ x. keep_entry same_name store.children (k, word) x in
      let same : put (record { at = at; depth = depth_of store.children k + 1 }) ≡ children = ap (λ (n : ℕ). put (record { at = at; depth = n + 1 })) (sym o.deep) ∙ sym o.put in
      let less : nat_lt (depth_of store.children k) 32 ≡ true = lt-ltb (depth_of store.children k) 32 (omega (arith, o.deep, o.shallow)) in
      let number : or_root (child_of children k word) ≡ place + 1 = ap (λ (p : Option ℕ). or_root (option_map (λ n. n + 1) p)) o.there in
      let open_ : ℕ → Option ℕ → Result View TreeFault = λ n p. unless_fault (λ d. Ok (view.view_opened v word d)) (opened c n word at labels_waiting p) in
      ap (λ (n : ℕ). open_ n (elsewhere store.labels (child_of store.children n word) labels_waiting)) (sym here)
      ∙ ap (open_ k) (sym o.free)
      ∙ ap (λ (b : Bool). unless_fault (λ d. Ok (view.view_opened v word d)) (cond b (Ok (with_child c k word at labels_waiting)) (Err (TooDeep at)))) less
      ∙ ap (λ (es : List ((ℕ × List ℕ) × Opened)). Ok (opened_view es (with_labels store.labels (or_root (child_of es k word)) labels_waiting) (or_root (child_of es (view.here (reverse bodies)) word)))) same
      ∙ ap (λ (n : ℕ). Ok (opened_view children (with_labels store.labels (or_root (child_of children k word)) labels_waiting) (or_root (child_of children n word)))) (sym here)
      ∙ ap (λ (n : ℕ). Ok (opened_view children (with_labels store.labels n labels_waiting) n)) number
      ∙ ap (λ (ls : List ((ℕ × List ℕ) × ℕ)). Ok (opened_view children ls (place + 1))) (sym o.labelled)

  pub opened_is : (k : ℕ) → k ≡ view.here (reverse bodies) → IsOpened k → (now : List ℕ) (left : List Token) → now ≡ bodies ++ (place + 1) ∷ [] → left ≡ [] → view.open_child (view_by text was bodies waiting first ps store) word at ≡ Ok (view_by text spot.Inside now left first ps opened_store)
  opened_is k here o now left is none =
      opened-at k here o
      ∙ ap (λ (ks : List ℕ). Ok (record (opened_view children labels (place + 1)) { bodies = ks })) (sym (ap reverse is ∙ reverse-push bodies (place + 1)))
      ∙ ap (λ (ts : List Token). Ok (record (opened_view children labels (place + 1)) { bodies = reverse now; waiting = map (label_in text) ts })) (sym none)

  pub held_opened : (k : ℕ) → k ≤ length store.children → IsOpened k → Held first ps bodies store → (now : List ℕ) → now ≡ bodies ++ (place + 1) ∷ [] → Held first ps now opened_store
  held_opened k inside o h now is =
      let long = length-keep store.children (k, word) new_child in
      let more : length store.children ≤ length children = omega (arith, long.0, ap length o.put) in
      let there : place + 1 ≤ length children = omega (arith, place-inside (same_name (k, word)) children place o.there) in
      record {
        from = h.from;
        bodies = subst (AllByRecursion (λ x. x ≤ length children)) (sym is) (numbers-push (length children) bodies (place + 1) (all-weaker _ _ bodies (λ x low. omega (arith, low, more)) h.bodies) there);
        earlier = subst (EarlierFrom 0) (sym o.put) (earlier-keep 0 store.children (k, word) new_child h.earlier (omega (arith, inside)));
        labels = subst (AllByRecursion (λ e. e.1 ≤ length children)) (sym o.labelled) (labels-all (length children) (place + 1) labels_waiting store.labels there (all-weaker _ _ store.labels (λ e low. omega (arith, low, more)) h.labels));
        owners = all-weaker _ _ store.properties (λ e low. omega (arith, low, more)) h.owners;
        ranges = h.ranges;
      }

-- a child's number lies within those that there may be
pub child_fits : (es now : List ((ℕ × List ℕ) × Opened)) (key : ℕ × List ℕ) (v : Opened) (place : ℕ) → now ≡ keep_entry same_name es key v → place < length now → size_of es + length key.1 < 4294967295 → place + 1 < 4294967296
child_fits es now key v place is inside room =
    omega (arith, size-keep es key v, size-length now, inside, ap size_of is, room)

-- ---- how many bytes names take

pub name-length : (text : List ℕ) (t : Token) → length (name_in text t) ≤ t.end - t.start
name-length text t = omega (arith, length-take (t.end - t.start) (drop t.start text))

pub waiting-push : (ts : List Token) (t : Token) → waiting_size (ts ++ t ∷ []) ≡ waiting_size ts + (t.end - t.start + 1)
waiting-push [] t = omega arith
waiting-push (x ∷ ts) t = omega (arith, waiting-push ts t)

pub labels-size : (text : List ℕ) (node : ℕ) (ts : List Token) (labels : List ((ℕ × List ℕ) × ℕ)) → size_of (with_labels labels node (map (label_in text) ts)) ≤ size_of labels + waiting_size ts
labels-size text node [] labels = omega arith
labels-size text node (t ∷ ts) labels =
    let put = keep_entry same_name labels (0, name_in text t) node in
    omega (arith, labels-size text node ts put, size-keep labels (0, name_in text t) node, name-length text t)
