-- The cells of a value that is kept in pieces, one piece more.
use Rattle.std.proofs.Common.{◌≡◌, ℕ, ◌+◌, ◌<◌, List, [], ◌∷◌, ◌++◌, Option, Some, None, length, take, drop, get_or, refl, sym, ap, ◌∙◌, subst, append_assoc}
use Rattle.std.specs.Prelude.{Result, Ok, Err, IfOk, IfSome}
use Rattle.std.specs.List.{fold, AllByRecursion}
use Rattle.std.specs.Option.{option_map}
use Rattle.std.proofs.lemmas.List.{append-nil, take-append-drop}
use Rattle.std.proofs.lemmas.List.Sums.{fold_more, fold-append}
use Rattle.dts_tree.specs.declared.value.Cell.{Cell}
use Rattle.dts_tree.specs.declared.value.Cell.TheVariants as cell
use Rattle.dts_tree.specs.declared.piece.Piece.{Piece}
use Rattle.dts_tree.specs.declared.piece.Piece.TheVariants as piece
use Rattle.dts_tree.specs.Value.{Part, Cells, Text, Bytes, Whole}
use Rattle.dts_tree.specs.Look.{cells_of, IsCellBelow}
use Rattle.dts_tree.specs.Inside.Pieces.{with_cell, with_byte, with_piece, parts_of}
use Rattle.dts_tree.specs.Inside.Below.{IsPieceBelow}

pub parts_of_none : {R : Type 0} → parts_of {R = R} [] ≡ []
unfolding parts_of
parts_of_none = refl

pub parts_of_more : {R : Type 0} (ps : List (Piece R)) (i : ℕ) (d : Piece R) → i < length ps → parts_of (take (i + 1) ps) ≡ with_piece (parts_of (take i ps)) (get_or ps i d)
unfolding parts_of
parts_of_more ps i d inside = fold_more with_piece [] ps i d inside

pub parts_of-split : {R : Type 0} (i : ℕ) (ps : List (Piece R)) → parts_of ps ≡ fold with_piece (parts_of (take i ps)) (drop i ps)
unfolding parts_of
parts_of-split i ps = ap (fold with_piece []) (sym (take-append-drop i ps)) ∙ fold-append with_piece [] (take i ps) (drop i ps)

behind_front : (front : List (Cell ℕ)) (x : Cell ℕ) (o : Option (List (Cell ℕ))) → option_map (λ others. front ++ others) (option_map (λ cs. cs ++ x ∷ []) o) ≡ option_map (λ cs. cs ++ x ∷ []) (option_map (λ others. front ++ others) o)
behind_front front x None = refl
behind_front front x (Some cs) = ap Some (sym (append_assoc front cs (x ∷ [])))

cells-with_cell : (parts : List (Part ℕ)) (x : Cell ℕ) → cells_of (with_cell parts x) ≡ option_map (λ cs. cs ++ x ∷ []) (cells_of parts)
cells-with_cell [] x = refl
cells-with_cell (Cells cells ∷ []) x = ap Some (append-nil (cells ++ x ∷ []) ∙ ap (λ cs. cs ++ x ∷ []) (sym (append-nil cells)))
cells-with_cell (Text bytes ∷ []) x = refl
cells-with_cell (Bytes bytes ∷ []) x = refl
cells-with_cell (Whole r ∷ []) x = refl
cells-with_cell (Cells cells ∷ q ∷ ps) x = ap (option_map (λ others. cells ++ others)) (cells-with_cell (q ∷ ps) x) ∙ behind_front cells x (cells_of (q ∷ ps))
cells-with_cell (Text bytes ∷ q ∷ ps) x = refl
cells-with_cell (Bytes bytes ∷ q ∷ ps) x = refl
cells-with_cell (Whole r ∷ q ∷ ps) x = refl

cells-begin : (parts : List (Part ℕ)) → cells_of (parts ++ Cells [] ∷ []) ≡ cells_of parts
cells-begin [] = refl
cells-begin (Cells cells ∷ ps) = ap (option_map (λ others. cells ++ others)) (cells-begin ps)
cells-begin (Text bytes ∷ ps) = refl
cells-begin (Bytes bytes ∷ ps) = refl
cells-begin (Whole r ∷ ps) = refl

cells-other : (parts : List (Part ℕ)) (q : Part ℕ) → cells_of (q ∷ []) ≡ None → cells_of (parts ++ q ∷ []) ≡ None
cells-other [] q none = none
cells-other (Cells cells ∷ ps) q none = ap (option_map (λ others. cells ++ others)) (cells-other ps q none)
cells-other (Text bytes ∷ ps) q none = refl
cells-other (Bytes bytes ∷ ps) q none = refl
cells-other (Whole r ∷ ps) q none = refl

cells-with_byte : (parts : List (Part ℕ)) (b : ℕ) → cells_of (with_byte parts b) ≡ None
cells-with_byte [] b = refl
cells-with_byte (Cells cells ∷ []) b = refl
cells-with_byte (Text bytes ∷ []) b = refl
cells-with_byte (Bytes bytes ∷ []) b = refl
cells-with_byte (Whole r ∷ []) b = refl
cells-with_byte (Cells cells ∷ q ∷ ps) b = ap (option_map (λ others. cells ++ others)) (cells-with_byte (q ∷ ps) b)
cells-with_byte (Text bytes ∷ q ∷ ps) b = refl
cells-with_byte (Bytes bytes ∷ q ∷ ps) b = refl
cells-with_byte (Whole r ∷ q ∷ ps) b = refl

-- the cells with one piece more
abbrev pub more_cells : Option (List (Cell ℕ)) → Piece ℕ → Option (List (Cell ℕ))
more_cells o piece.Cells = o
more_cells o (piece.Number n) = option_map (λ cs. cs ++ cell.Num n ∷ []) o
more_cells o (piece.Node r) = option_map (λ cs. cs ++ cell.Node r ∷ []) o
more_cells o piece.Text = None
more_cells o piece.Bytes = None
more_cells o (piece.Byte b) = None
more_cells o (piece.Whole r) = None

cells-with_piece : (parts : List (Part ℕ)) (p : Piece ℕ) → cells_of (with_piece parts p) ≡ more_cells (cells_of parts) p
cells-with_piece parts piece.Cells = cells-begin parts
cells-with_piece parts (piece.Number n) = cells-with_cell parts (cell.Num n)
cells-with_piece parts (piece.Node r) = cells-with_cell parts (cell.Node r)
cells-with_piece parts piece.Text = cells-other parts (Text []) refl
cells-with_piece parts piece.Bytes = cells-other parts (Bytes []) refl
cells-with_piece parts (piece.Byte b) = cells-with_byte parts b
cells-with_piece parts (piece.Whole r) = cells-other parts (Whole r) refl

more_none : (p : Piece ℕ) → more_cells None p ≡ None
more_none piece.Cells = refl
more_none (piece.Number n) = refl
more_none (piece.Node r) = refl
more_none piece.Text = refl
more_none piece.Bytes = refl
more_none (piece.Byte b) = refl
more_none (piece.Whole r) = refl

cells-none : (ps : List (Piece ℕ)) (parts : List (Part ℕ)) → cells_of parts ≡ None → cells_of (fold with_piece parts ps) ≡ None
cells-none [] parts none = none
cells-none (p ∷ ps) parts none = cells-none ps (with_piece parts p) (cells-with_piece parts p ∙ ap (λ o. more_cells o p) none ∙ more_none p)

-- one piece more has been read
pub cells_more : (ps : List (Piece ℕ)) (i : ℕ) (d p : Piece ℕ) (o : Option (List (Cell ℕ))) → i < length ps → get_or ps i d ≡ p → cells_of (parts_of (take i ps)) ≡ o → cells_of (parts_of (take (i + 1) ps)) ≡ more_cells o p
cells_more ps i d p o inside here is =
    ap cells_of (parts_of_more ps i d inside)
    ∙ cells-with_piece (parts_of (take i ps)) (get_or ps i d)
    ∙ ap (more_cells (cells_of (parts_of (take i ps)))) here
    ∙ ap (λ x. more_cells x p) is

no_cells : (o : Option (List (Cell ℕ))) (p : Piece ℕ) → (p ≡ piece.Cells → ⊥) → ((n : ℕ) → p ≡ piece.Number n → ⊥) → ((r : ℕ) → p ≡ piece.Node r → ⊥) → more_cells o p ≡ None
no_cells o piece.Cells a b c = absurd (a refl)
no_cells o (piece.Number n) a b c = absurd (b n refl)
no_cells o (piece.Node r) a b c = absurd (c r refl)
no_cells o piece.Text a b c = refl
no_cells o piece.Bytes a b c = refl
no_cells o (piece.Byte byte) a b c = refl
no_cells o (piece.Whole r) a b c = refl

-- a piece that is of no cells has been read
pub cells_end : (ps : List (Piece ℕ)) (i : ℕ) (d : Piece ℕ) → i < length ps → (get_or ps i d ≡ piece.Cells → ⊥) → ((n : ℕ) → get_or ps i d ≡ piece.Number n → ⊥) → ((r : ℕ) → get_or ps i d ≡ piece.Node r → ⊥) → cells_of (parts_of ps) ≡ None
cells_end ps i d inside a b c =
    let o = cells_of (parts_of (take i ps)) in
    ap cells_of (parts_of-split (i + 1) ps)
    ∙ cells-none (drop (i + 1) ps) (parts_of (take (i + 1) ps)) (cells_more ps i d (get_or ps i d) o inside refl refl ∙ no_cells o (get_or ps i d) a b c)

-- ---- cells of nodes that are there

abbrev IsPartBelow : ℕ → Part ℕ → Type 0
IsPartBelow n (Cells cells) = AllByRecursion (IsCellBelow n) cells
IsPartBelow n (Text bytes) = Unit {0}
IsPartBelow n (Bytes bytes) = Unit {0}
IsPartBelow n (Whole r) = Unit {0}

all-push : {X : Type 0} (P : X → Type 0) (xs : List X) (x : X) → AllByRecursion P xs → P x → AllByRecursion P (xs ++ x ∷ [])
all-push P [] x h new = (new, tt)
all-push P (y ∷ ys) x h new = (h.0, all-push P ys x h.1 new)

all-append : {X : Type 0} (P : X → Type 0) (xs ys : List X) → AllByRecursion P xs → AllByRecursion P ys → AllByRecursion P (xs ++ ys)
all-append P [] ys h more = more
all-append P (x ∷ xs) ys h more = (h.0, all-append P xs ys h.1 more)

module _ (n : ℕ) where
  abbrev AreBelow : List (Part ℕ) → Type 0
  AreBelow = AllByRecursion (IsPartBelow n)

  below-with_cell : (parts : List (Part ℕ)) (x : Cell ℕ) → AreBelow parts → IsCellBelow n x → AreBelow (with_cell parts x)
  below-with_cell [] x h new = ((new, tt), tt)
  below-with_cell (Cells cells ∷ []) x h new = (all-push (IsCellBelow n) cells x h.0 new, tt)
  below-with_cell (Text bytes ∷ []) x h new = (tt, ((new, tt), tt))
  below-with_cell (Bytes bytes ∷ []) x h new = (tt, ((new, tt), tt))
  below-with_cell (Whole r ∷ []) x h new = (tt, ((new, tt), tt))
  below-with_cell (Cells cells ∷ q ∷ ps) x h new = (h.0, below-with_cell (q ∷ ps) x h.1 new)
  below-with_cell (Text bytes ∷ q ∷ ps) x h new = (tt, below-with_cell (q ∷ ps) x h.1 new)
  below-with_cell (Bytes bytes ∷ q ∷ ps) x h new = (tt, below-with_cell (q ∷ ps) x h.1 new)
  below-with_cell (Whole r ∷ q ∷ ps) x h new = (tt, below-with_cell (q ∷ ps) x h.1 new)

  below-with_byte : (parts : List (Part ℕ)) (b : ℕ) → AreBelow parts → AreBelow (with_byte parts b)
  below-with_byte [] b h = (tt, tt)
  below-with_byte (Cells cells ∷ []) b h = (h.0, (tt, tt))
  below-with_byte (Text bytes ∷ []) b h = (tt, tt)
  below-with_byte (Bytes bytes ∷ []) b h = (tt, tt)
  below-with_byte (Whole r ∷ []) b h = (tt, (tt, tt))
  below-with_byte (Cells cells ∷ q ∷ ps) b h = (h.0, below-with_byte (q ∷ ps) b h.1)
  below-with_byte (Text bytes ∷ q ∷ ps) b h = (tt, below-with_byte (q ∷ ps) b h.1)
  below-with_byte (Bytes bytes ∷ q ∷ ps) b h = (tt, below-with_byte (q ∷ ps) b h.1)
  below-with_byte (Whole r ∷ q ∷ ps) b h = (tt, below-with_byte (q ∷ ps) b h.1)

  below-with_piece : (parts : List (Part ℕ)) (p : Piece ℕ) → AreBelow parts → IsPieceBelow n p → AreBelow (with_piece parts p)
  below-with_piece parts piece.Cells h new = all-push (IsPartBelow n) parts (Cells []) h tt
  below-with_piece parts (piece.Number k) h new = below-with_cell parts (cell.Num k) h tt
  below-with_piece parts (piece.Node r) h new = below-with_cell parts (cell.Node r) h new
  below-with_piece parts piece.Text h new = all-push (IsPartBelow n) parts (Text []) h tt
  below-with_piece parts piece.Bytes h new = all-push (IsPartBelow n) parts (Bytes []) h tt
  below-with_piece parts (piece.Byte b) h new = below-with_byte parts b h
  below-with_piece parts (piece.Whole r) h new = all-push (IsPartBelow n) parts (Whole r) h tt

  below-fold : (ps : List (Piece ℕ)) (parts : List (Part ℕ)) → AreBelow parts → AllByRecursion (IsPieceBelow n) ps → AreBelow (fold with_piece parts ps)
  below-fold [] parts h all = h
  below-fold (p ∷ ps) parts h all = below-fold ps (with_piece parts p) (below-with_piece parts p h all.0) all.1

  below-parts_of : (ps : List (Piece ℕ)) → AllByRecursion (IsPieceBelow n) ps → AreBelow (parts_of ps)
  unfolding parts_of
  below-parts_of ps all = below-fold ps [] tt all

  abbrev IfBelow : Option (List (Cell ℕ)) → Type 0
  IfBelow None = Unit {0}
  IfBelow (Some cells) = AllByRecursion (IsCellBelow n) cells

  below-front : (cells : List (Cell ℕ)) (o : Option (List (Cell ℕ))) → AllByRecursion (IsCellBelow n) cells → IfBelow o → IfBelow (option_map (λ others. cells ++ others) o)
  below-front cells None h more = tt
  below-front cells (Some others) h more = all-append (IsCellBelow n) cells others h more

  below-cells : (parts : List (Part ℕ)) → AreBelow parts → IfBelow (cells_of parts)
  below-cells [] h = tt
  below-cells (Cells cells ∷ ps) h = below-front cells (cells_of ps) h.0 (below-cells ps h.1)
  below-cells (Text bytes ∷ ps) h = tt
  below-cells (Bytes bytes ∷ ps) h = tt
  below-cells (Whole r ∷ ps) h = tt

  -- the cells of pieces that refer to so many nodes
  cells-below : (ps : List (Piece ℕ)) → AllByRecursion (IsPieceBelow n) ps → (cells : List (Cell ℕ)) → cells_of (parts_of ps) ≡ Some cells → AllByRecursion (IsCellBelow n) cells
  cells-below ps all cells is = subst IfBelow is (below-cells (parts_of ps) (below-parts_of ps all))

-- the same of what a call gave
pub cells-result : {V E : Type 0} (items : V → List (Cell ℕ)) (n : ℕ) (ps : List (Piece ℕ)) (r : Result (Option V) E) → IfOk r (λ o. option_map items o ≡ cells_of (parts_of ps)) → AllByRecursion (IsPieceBelow n) ps → IfOk r (λ o. IfSome o (λ v. AllByRecursion (IsCellBelow n) (items v)))
cells-result items n ps (Err e) is all = tt
cells-result items n ps (Ok None) is all = tt
cells-result items n ps (Ok (Some v)) is all = cells-below n ps all (items v) (sym is)
