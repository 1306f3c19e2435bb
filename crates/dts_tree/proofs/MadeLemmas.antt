-- What is kept by numbers is the tree of what was set.
use Rattle.std.proofs.Common.{◌≡◌, ℕ, zero, suc, ◌-◌, ◌<◌, ◌≤◌, List, [], ◌∷◌, Bool, true, false, cond, Option, Some, None, Ok, length, filter, map, take, drop, get_or, nat_eq, refl, sym, ap, ◌∙◌, arith}
use Rattle.std.specs.Prelude.{slice_range}
use Rattle.std.specs.List.{AllByRecursion, fold}
use Rattle.std.specs.Option.{option_map_or}
use Rattle.std.proofs.lemmas.List.{map-append, take-map, drop-map, length-map}
use Rattle.name_map.specs.NameEntries.{same_name}
use Rattle.dts_tree.specs.declared.value.Cell.{Cell}
use Rattle.dts_tree.specs.declared.value.Cell.TheVariants as cell
use Rattle.dts_tree.specs.declared.store.Span.{Span}
use Rattle.dts_tree.specs.declared.store.Settled.{Settled}
use Rattle.dts_tree.specs.declared.store.Store.{Store}
use Rattle.dts_tree.specs.declared.piece.Piece.{Piece}
use Rattle.dts_tree.specs.declared.piece.Piece.TheVariants as piece
use Rattle.dts_tree.specs.declared.piece.Place.{Place}
use Rattle.dts_tree.specs.Value.{Part, Property, Cells, Text, Bytes, Whole, cell_by, part_by}
use Rattle.dts_tree.specs.Setting.{Label}
use Rattle.dts_tree.specs.Content.{Content, node_of, or_root}
use Rattle.dts_tree.specs.Tree.{Node, rank, node_in, tree_of}
use Rattle.dts_tree.specs.Outcome.{unless_unknown}
use Rattle.dts_tree.specs.Inside.Below.{IsPieceBelow}
use Rattle.dts_tree.specs.Inside.Kept.{property_kept, properties_kept, node_kept, nodes_kept}
use Rattle.dts_tree.specs.Inside.Layout.{IsLayout}
use Rattle.dts_tree.specs.Inside.Made.{outcome_kept}
use Rattle.dts_tree.specs.Inside.Numbered.{first_unknown, number_of}
use Rattle.dts_tree.specs.Inside.Pieces.{with_cell, with_byte, with_piece, parts_of, piece_by, label_at}
use Rattle.dts_tree.specs.Inside.Stored.{value_in, store_of, content_of, labels_kept, Sound}
use Rattle.dts_tree.proofs.LayoutLemmas.{layout-seen}
use Rattle.dts_tree.proofs.MapLemmas.{lookup-at}

-- ---- parts with other references

module _ {R S : Type 0} (f : R → S) where
  with_cell-by : (ps : List (Part R)) (c : Cell R) → with_cell (map (part_by f) ps) (cell_by f c) ≡ map (part_by f) (with_cell ps c)
  with_cell-by [] c = refl
  with_cell-by (Cells cells ∷ []) c = ap (λ cs. Cells cs ∷ []) (sym (map-append (cell_by f) cells (c ∷ [])))
  with_cell-by (Text bytes ∷ []) c = refl
  with_cell-by (Bytes bytes ∷ []) c = refl
  with_cell-by (Whole r ∷ []) c = refl
  with_cell-by (Cells cells ∷ q ∷ ps) c = ap (λ qs. Cells (map (cell_by f) cells) ∷ qs) (with_cell-by (q ∷ ps) c)
  with_cell-by (Text bytes ∷ q ∷ ps) c = ap (λ qs. Text bytes ∷ qs) (with_cell-by (q ∷ ps) c)
  with_cell-by (Bytes bytes ∷ q ∷ ps) c = ap (λ qs. Bytes bytes ∷ qs) (with_cell-by (q ∷ ps) c)
  with_cell-by (Whole r ∷ q ∷ ps) c = ap (λ qs. Whole (f r) ∷ qs) (with_cell-by (q ∷ ps) c)

  with_byte-by : (ps : List (Part R)) (b : ℕ) → with_byte (map (part_by f) ps) b ≡ map (part_by f) (with_byte ps b)
  with_byte-by [] b = refl
  with_byte-by (Cells cells ∷ []) b = refl
  with_byte-by (Text bytes ∷ []) b = refl
  with_byte-by (Bytes bytes ∷ []) b = refl
  with_byte-by (Whole r ∷ []) b = refl
  with_byte-by (Cells cells ∷ q ∷ ps) b = ap (λ qs. Cells (map (cell_by f) cells) ∷ qs) (with_byte-by (q ∷ ps) b)
  with_byte-by (Text bytes ∷ q ∷ ps) b = ap (λ qs. Text bytes ∷ qs) (with_byte-by (q ∷ ps) b)
  with_byte-by (Bytes bytes ∷ q ∷ ps) b = ap (λ qs. Bytes bytes ∷ qs) (with_byte-by (q ∷ ps) b)
  with_byte-by (Whole r ∷ q ∷ ps) b = ap (λ qs. Whole (f r) ∷ qs) (with_byte-by (q ∷ ps) b)

  with_piece-by : (ps : List (Part R)) (p : Piece R) → with_piece (map (part_by f) ps) (piece_by f p) ≡ map (part_by f) (with_piece ps p)
  with_piece-by ps piece.Cells = sym (map-append (part_by f) ps (Cells [] ∷ []))
  with_piece-by ps (piece.Number n) = with_cell-by ps (cell.Num n)
  with_piece-by ps (piece.Node r) = with_cell-by ps (cell.Node r)
  with_piece-by ps piece.Text = sym (map-append (part_by f) ps (Text [] ∷ []))
  with_piece-by ps piece.Bytes = sym (map-append (part_by f) ps (Bytes [] ∷ []))
  with_piece-by ps (piece.Byte b) = with_byte-by ps b
  with_piece-by ps (piece.Whole r) = sym (map-append (part_by f) ps (Whole r ∷ []))

  fold-by : (pieces : List (Piece R)) (ps : List (Part R)) → fold with_piece (map (part_by f) ps) (map (piece_by f) pieces) ≡ map (part_by f) (fold with_piece ps pieces)
  fold-by [] ps = refl
  fold-by (p ∷ pieces) ps = ap (λ qs. fold with_piece qs (map (piece_by f) pieces)) (with_piece-by ps p) ∙ fold-by pieces (with_piece ps p)

  parts_of-by : (pieces : List (Piece R)) → parts_of (map (piece_by f) pieces) ≡ map (part_by f) (parts_of pieces)
  unfolding parts_of
  parts_of-by pieces = fold-by pieces []

-- two steps at once
module _ {R S T : Type 0} (l : R → S) (r : S → T) (f : R → T) (same : (x : R) → f x ≡ r (l x)) where
  piece-twice : (p : Piece R) → piece_by f p ≡ piece_by r (piece_by l p)
  piece-twice piece.Cells = refl
  piece-twice (piece.Number n) = refl
  piece-twice (piece.Node x) = ap piece.Node (same x)
  piece-twice piece.Text = refl
  piece-twice piece.Bytes = refl
  piece-twice (piece.Byte b) = refl
  piece-twice (piece.Whole x) = ap piece.Whole (same x)

  pieces-twice : (ps : List (Piece R)) → map (piece_by f) ps ≡ map (piece_by r) (map (piece_by l) ps)
  pieces-twice [] = refl
  pieces-twice (p ∷ ps) = ap (λ q. q ∷ map (piece_by f) ps) (piece-twice p) ∙ ap (λ qs. piece_by r (piece_by l p) ∷ qs) (pieces-twice ps)

  parts-twice : (ps : List (Piece R)) → parts_of (map (piece_by f) ps) ≡ map (part_by r) (map (part_by l) (parts_of ps))
  parts-twice ps = ap parts_of (pieces-twice ps) ∙ parts_of-by r (map (piece_by l) ps) ∙ ap (map (part_by r)) (parts_of-by l ps)

  value-twice : (ps : List (Piece R)) (i j : ℕ) → parts_of (slice_range (map (piece_by f) ps) i j) ≡ map (part_by r) (map (part_by l) (parts_of (slice_range ps i j)))
  value-twice ps i j =
      ap (λ qs. parts_of (take (j - i) qs)) (drop-map (piece_by f) i ps)
      ∙ ap parts_of (take-map (piece_by f) (j - i) (drop i ps))
      ∙ parts-twice (slice_range ps i j)

-- ---- the tree

module _ (text : List ℕ) (pieces : List (Piece Place)) (settled : Settled) (labels : List ((ℕ × List ℕ) × ℕ)) (sound : Sound (store_of settled labels)) (order ranks : List ℕ) (h : IsLayout (0 ∷ map (λ e. e.0.0) settled.children) order ranks) where
  abbrev store : Store
  store = store_of settled labels

  abbrev owners : List ℕ
  owners = map (λ e. e.0.0) store.children

  abbrev content : Content
  content = content_of text pieces store

  owners-earlier : (k : ℕ) → k < length owners → get_or owners k 0 ≤ k
  owners-earlier k inside = sound.earlier k (omega (arith, inside, length-map store.children (λ e. e.0.0)))

  node-inside : (name : List ℕ) (o : Option ℕ) → node_of store.labels name ≡ o → or_root o ≤ length store.children
  node-inside name None is = omega arith
  node-inside name (Some v) is =
      let at = lookup-at (same_name (0, name)) store.labels v is in
      omega (arith, sound.labels at.0 at.1, at.2)

  number-of : (p : Place) → number_of text store.labels ranks p ≡ rank order (or_root (node_of store.labels (label_at text p).name))
  number-of p =
      let name = (label_at text p).name in
      h.ranked (or_root (node_of store.labels name)) (omega (arith, node-inside name (node_of store.labels name) refl, length-map store.children (λ e. e.0.0)))

  number-below : (p : Place) → number_of text store.labels ranks p < length order
  number-below p =
      let name = (label_at text p).name in
      let seen = layout-seen owners order ranks owners-earlier h (or_root (node_of store.labels name)) (omega (arith, node-inside name (node_of store.labels name) refl, length-map store.children (λ e. e.0.0))) in
      omega (arith, number-of p, seen)

  piece-below : (p : Piece Place) → IsPieceBelow (length order) (piece_by (number_of text store.labels ranks) p)
  piece-below piece.Cells = tt
  piece-below (piece.Number n) = tt
  piece-below (piece.Node p) = number-below p
  piece-below piece.Text = tt
  piece-below piece.Bytes = tt
  piece-below (piece.Byte b) = tt
  piece-below (piece.Whole p) = number-below p

  pub pieces-below : (ps : List (Piece Place)) → AllByRecursion (IsPieceBelow (length order)) (map (piece_by (number_of text store.labels ranks)) ps)
  pieces-below [] = tt
  pieces-below (p ∷ ps) = (piece-below p, pieces-below ps)

  abbrev kept : List (Piece ℕ)
  kept = map (piece_by (number_of text store.labels ranks)) pieces

  abbrev rank_of : Label → ℕ
  rank_of l = rank order (or_root (node_of store.labels l.name))

  abbrev said : (ℕ × List ℕ) × List (Part Label) → Property ℕ
  said e = record { name = e.0.1; parts = map (part_by rank_of) e.1 }

  abbrev valued : (ℕ × List ℕ) × Span → (ℕ × List ℕ) × List (Part Label)
  valued e = (e.0, value_in text pieces e.1)

  property-same : (e : (ℕ × List ℕ) × Span) → property_kept kept e ≡ said (valued e)
  property-same e = ap {A = List (Part ℕ)} (λ ps. record { name = e.0.1; parts = ps }) (value-twice (label_at text) rank_of (number_of text store.labels ranks) number-of pieces e.1.from e.1.to)

  properties-same : (k : ℕ) (es : List ((ℕ × List ℕ) × Span)) → properties_kept kept es k ≡ map said (filter (λ e. nat_eq e.0.0 k) (map valued es))
  properties-same k [] = refl
  properties-same k (e ∷ es) =
      let rest = properties-same k es in
      elim (nat_eq e.0.0 k) as (λ (b : Bool). map (property_kept kept) (cond b (e ∷ filter (λ e. nat_eq e.0.0 k) es) (filter (λ e. nat_eq e.0.0 k) es)) ≡ map said (cond b (valued e ∷ filter (λ e. nat_eq e.0.0 k) (map valued es)) (filter (λ e. nat_eq e.0.0 k) (map valued es)))) [
        | true ↦ ap (λ p. p ∷ properties_kept kept es k) (property-same e) ∙ ap (λ ps. said (valued e) ∷ ps) rest
        | false ↦ rest
      ]

  node-same : (k : ℕ) → node_kept settled kept order k ≡ node_in content order k
  node-same zero = ap {A = List (Property ℕ)} (λ ps. record { name = []; parent = None; at = option_map_or (λ at. at) store.root_at 0; properties = ps }) (properties-same 0 store.properties)
  node-same (suc k) = ap {A = List (Property ℕ)} (λ ps. record {
    name = get_or (map (λ e. e.0.1) store.children) k [];
    parent = Some (rank order (get_or owners k 0));
    at = get_or (map (λ e. e.1.at) store.children) k 0;
    properties = ps;
  }) (properties-same (suc k) store.properties)

  nodes-same : (ks : List ℕ) → map (node_kept settled kept order) ks ≡ map (node_in content order) ks
  nodes-same [] = refl
  nodes-same (k ∷ ks) = ap (λ n. n ∷ map (node_kept settled kept order) ks) (node-same k) ∙ ap (λ ns. node_in content order k ∷ ns) (nodes-same ks)

  -- the tree that is kept
  pub kept-tree : nodes_kept settled kept order ≡ tree_of content
  unfolding nodes_kept tree_of
  kept-tree = nodes-same order ∙ ap (λ ks. map (node_in content ks) ks) h.ordered

pub outcome-known : (text : List ℕ) (pieces : List (Piece Place)) (store : Store) (nodes : List Node) → first_unknown store.labels (labels_kept text pieces) ≡ None → nodes ≡ tree_of (content_of text pieces store) → outcome_kept text pieces store ≡ Ok nodes
outcome-known text pieces store nodes known is = ap (unless_unknown (content_of text pieces store)) known ∙ ap Ok (sym is)
