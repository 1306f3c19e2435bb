-- Pieces that are put behind others.
use Rattle.std.proofs.Common.{◌≡◌, ℕ, zero, suc, ◌-◌, ◌≤◌, List, [], ◌∷◌, ◌++◌, length, map, fold, take, drop, refl, ap, ◌∙◌, arith}
use Rattle.std.specs.Prelude.{slice_range}
use Rattle.std.specs.List.{flat_map, AllByRecursion}
use Rattle.std.proofs.Math.Logic.{⊎_elim}
use Rattle.std.proofs.lemmas.Bool.{cases_lt}
use Rattle.std.proofs.lemmas.List.{map-append, length-drop, take_all}
use Rattle.std.proofs.lemmas.Grind.{flat_map-append, fold-append}
use Rattle.dts_tree.specs.declared.value.Cell.{Cell}
use Rattle.dts_tree.specs.declared.value.Cell.TheVariants as cell
use Rattle.dts_tree.specs.declared.piece.Piece.{Piece}
use Rattle.dts_tree.specs.declared.piece.Piece.TheVariants as piece
use Rattle.dts_tree.specs.declared.piece.Place.{Place}
use Rattle.dts_tree.specs.declared.store.Span.{Span}
use Rattle.dts_tree.specs.Value.{Part, Cells, Text, Bytes, Whole, cell_by, part_by}
use Rattle.dts_tree.specs.Setting.{Label}
use Rattle.dts_tree.specs.Inside.Pieces.{with_cell, with_byte, with_bytes, with_piece, parts_of, reference_in, piece_by, label_at}
use Rattle.dts_tree.specs.Inside.Stored.{value_in, values_kept, labels_kept}

module _ {R S : Type 0} (f : R → S) where
  with_cell-by : (ps : List (Part R)) (c : Cell R) → map (part_by f) (with_cell ps c) ≡ with_cell (map (part_by f) ps) (cell_by f c)
  with_cell-by [] c = refl
  with_cell-by (Cells cells ∷ []) c = ap (λ cs. Cells cs ∷ []) (map-append (cell_by f) cells (c ∷ []))
  with_cell-by (Text bytes ∷ []) c = refl
  with_cell-by (Bytes bytes ∷ []) c = refl
  with_cell-by (Whole r ∷ []) c = refl
  with_cell-by (p ∷ q ∷ ps) c = ap (λ xs. part_by f p ∷ xs) (with_cell-by (q ∷ ps) c)

  with_byte-by : (ps : List (Part R)) (b : ℕ) → map (part_by f) (with_byte ps b) ≡ with_byte (map (part_by f) ps) b
  with_byte-by [] b = refl
  with_byte-by (Cells cells ∷ []) b = refl
  with_byte-by (Text bytes ∷ []) b = refl
  with_byte-by (Bytes bytes ∷ []) b = refl
  with_byte-by (Whole r ∷ []) b = refl
  with_byte-by (p ∷ q ∷ ps) b = ap (λ xs. part_by f p ∷ xs) (with_byte-by (q ∷ ps) b)

  pub with_piece-by : (ps : List (Part R)) (p : Piece R) → map (part_by f) (with_piece ps p) ≡ with_piece (map (part_by f) ps) (piece_by f p)
  with_piece-by ps piece.Cells = map-append (part_by f) ps (Cells [] ∷ [])
  with_piece-by ps (piece.Number n) = with_cell-by ps (cell.Num n)
  with_piece-by ps (piece.Node r) = with_cell-by ps (cell.Node r)
  with_piece-by ps piece.Text = map-append (part_by f) ps (Text [] ∷ [])
  with_piece-by ps piece.Bytes = map-append (part_by f) ps (Bytes [] ∷ [])
  with_piece-by ps (piece.Byte b) = with_byte-by ps b
  with_piece-by ps (piece.Whole r) = map-append (part_by f) ps (Whole r ∷ [])

pub parts_of-more : {R : Type 0} (ps qs : List (Piece R)) → parts_of (ps ++ qs) ≡ fold with_piece (parts_of ps) qs
unfolding parts_of
parts_of-more ps qs = fold-append with_piece [] ps qs

pub parts_of-none : {R : Type 0} → parts_of {R = R} [] ≡ []
unfolding parts_of
parts_of-none = refl

fold-by : {R S : Type 0} (f : R → S) (ps : List (Part R)) (qs : List (Piece R)) → map (part_by f) (fold with_piece ps qs) ≡ fold with_piece (map (part_by f) ps) (map (piece_by f) qs)
fold-by f ps [] = refl
fold-by f ps (q ∷ qs) = fold-by f (with_piece ps q) qs ∙ ap (λ xs. fold with_piece xs (map (piece_by f) qs)) (with_piece-by f ps q)

pub fold-bytes : {R : Type 0} (ps : List (Part R)) (bytes : List ℕ) → fold with_piece ps (map piece.Byte bytes) ≡ with_bytes ps bytes
fold-bytes ps [] = refl
fold-bytes ps (b ∷ bytes) = fold-bytes (with_byte ps b) bytes

pub fold-bytes-by : {R S : Type 0} (f : R → S) (ps : List (Part S)) (bytes : List ℕ) → with_bytes ps bytes ≡ fold with_piece ps (map (piece_by f) (map piece.Byte bytes))
fold-bytes-by f ps [] = refl
fold-bytes-by f ps (b ∷ bytes) = fold-bytes-by f (with_byte ps b) bytes

pub drop-more : {X : Type 0} (n : ℕ) (xs ys : List X) → n ≤ length xs → drop n (xs ++ ys) ≡ drop n xs ++ ys
drop-more zero xs ys h = refl
drop-more (suc n) [] ys h = absurd (omega arith)
drop-more (suc n) (x ∷ xs) ys h = drop-more n xs ys (omega arith)

take-more : {X : Type 0} (n : ℕ) (xs ys : List X) → n ≤ length xs → take n (xs ++ ys) ≡ take n xs
take-more zero xs ys h = refl
take-more (suc n) [] ys h = absurd (omega arith)
take-more (suc n) (x ∷ xs) ys h = ap (λ zs. x ∷ zs) (take-more n xs ys (omega arith))

-- what lies before a place that is there stays
pub range-more : {X : Type 0} (i j : ℕ) (xs ys : List X) → j ≤ length xs → slice_range (xs ++ ys) i j ≡ slice_range xs i j
range-more i j xs ys h =
    ⊎_elim
    (λ less. ap (take (j - i)) (drop-more i xs ys (omega (arith, less, h))) ∙ take-more (j - i) (drop i xs) ys (omega (arith, less, h, length-drop i xs)))
    (λ past. (let none : j - i ≡ 0 = omega (arith, past) in rw none refl))
    (cases_lt i j)

pub range-rest : {X : Type 0} (i : ℕ) (xs : List X) → slice_range xs i (length xs) ≡ drop i xs
range-rest i xs = take_all (length xs - i) (drop i xs) (omega (arith, length-drop i xs))

module _ (text : List ℕ) where
  value-more : (ps qs : List (Piece Place)) (span : Span) → span.to ≤ length ps → value_in text (ps ++ qs) span ≡ value_in text ps span
  value-more ps qs span h = ap (λ xs. map (part_by (label_at text)) (parts_of xs)) (range-more span.from span.to ps qs h)

  pub values-more : (ps qs : List (Piece Place)) (es : List ((ℕ × List ℕ) × Span)) → AllByRecursion (λ e. e.1.to ≤ length ps) es → values_kept text (ps ++ qs) es ≡ values_kept text ps es
  values-more ps qs [] h = refl
  values-more ps qs (e ∷ es) h =
      let entry : List (Part Label) → (ℕ × List ℕ) × List (Part Label) = λ v. (e.0, v) in
      ap (λ (v : List (Part Label)). entry v ∷ values_kept text (ps ++ qs) es) (value-more ps qs e.1 h.0)
      ∙ ap (λ (xs : List ((ℕ × List ℕ) × List (Part Label))). entry (value_in text ps e.1) ∷ xs) (values-more ps qs es h.1)

  pub parts-more : (n : ℕ) (ps qs : List (Piece Place)) → n ≤ length ps → map (part_by (label_at text)) (parts_of (drop n (ps ++ qs))) ≡ fold with_piece (map (part_by (label_at text)) (parts_of (drop n ps))) (map (piece_by (label_at text)) qs)
  parts-more n ps qs h =
      ap (λ xs. map (part_by (label_at text)) (parts_of xs)) (drop-more n ps qs h)
      ∙ ap (map (part_by (label_at text))) (parts_of-more (drop n ps) qs)
      ∙ fold-by (label_at text) (parts_of (drop n ps)) qs

  pub labels-more : (ps qs : List (Piece Place)) → labels_kept text (ps ++ qs) ≡ labels_kept text ps ++ labels_kept text qs
  labels-more ps qs = ap (map (label_at text)) (flat_map-append reference_in ps qs) ∙ map-append (label_at text) (flat_map reference_in ps) (flat_map reference_in qs)

  pub labels-bytes : (bytes : List ℕ) → labels_kept text (map piece.Byte bytes) ≡ []
  labels-bytes [] = refl
  labels-bytes (b ∷ bytes) = labels-bytes bytes
