-- The strings of a value that is kept in pieces, one piece more.
use Rattle.std.proofs.Common.{◌≡◌, ℕ, ◌+◌, ◌<◌, List, [], ◌∷◌, ◌++◌, Option, Some, None, length, take, drop, get_or, refl, ap, ◌∙◌}
use Rattle.std.specs.List.{fold}
use Rattle.std.specs.Option.{option_map, option_and_then}
use Rattle.dts_tree.specs.declared.value.Cell.{Cell}
use Rattle.dts_tree.specs.declared.value.Cell.TheVariants as cell
use Rattle.dts_tree.specs.declared.piece.Piece.{Piece}
use Rattle.dts_tree.specs.declared.piece.Piece.TheVariants as piece
use Rattle.dts_tree.specs.Value.{Part, Cells, Text, Bytes, Whole}
use Rattle.dts_tree.specs.Look.{strings_of}
use Rattle.dts_tree.specs.Inside.Pieces.{with_cell, with_byte, with_piece, parts_of}
use Rattle.dts_tree.specs.Inside.Strings.{with_last_byte}
use Rattle.dts_tree.proofs.CellLemmas.{parts_of_more, parts_of-split}

behind_first : (s : List ℕ) (o : Option (List (List ℕ))) → option_map (λ others. s ∷ others) (option_map (λ ss. ss ++ [] ∷ []) o) ≡ option_map (λ ss. ss ++ [] ∷ []) (option_map (λ others. s ∷ others) o)
behind_first s None = refl
behind_first s (Some ss) = refl

strings-begin : (parts : List (Part ℕ)) → strings_of (parts ++ Text [] ∷ []) ≡ option_map (λ ss. ss ++ [] ∷ []) (strings_of parts)
strings-begin [] = refl
strings-begin (Text bytes ∷ ps) = ap (option_map (λ others. bytes ∷ others)) (strings-begin ps) ∙ behind_first bytes (strings_of ps)
strings-begin (Cells cells ∷ ps) = refl
strings-begin (Bytes bytes ∷ ps) = refl
strings-begin (Whole r ∷ ps) = refl

strings-other : (parts : List (Part ℕ)) (q : Part ℕ) → strings_of (q ∷ []) ≡ None → strings_of (parts ++ q ∷ []) ≡ None
strings-other [] q none = none
strings-other (Text bytes ∷ ps) q none = ap (option_map (λ others. bytes ∷ others)) (strings-other ps q none)
strings-other (Cells cells ∷ ps) q none = refl
strings-other (Bytes bytes ∷ ps) q none = refl
strings-other (Whole r ∷ ps) q none = refl

strings-with_cell : (parts : List (Part ℕ)) (x : Cell ℕ) → strings_of (with_cell parts x) ≡ None
strings-with_cell [] x = refl
strings-with_cell (Cells cells ∷ []) x = refl
strings-with_cell (Text bytes ∷ []) x = refl
strings-with_cell (Bytes bytes ∷ []) x = refl
strings-with_cell (Whole r ∷ []) x = refl
strings-with_cell (Text bytes ∷ q ∷ ps) x = ap (option_map (λ others. bytes ∷ others)) (strings-with_cell (q ∷ ps) x)
strings-with_cell (Cells cells ∷ q ∷ ps) x = refl
strings-with_cell (Bytes bytes ∷ q ∷ ps) x = refl
strings-with_cell (Whole r ∷ q ∷ ps) x = refl

past_first : (s t : List ℕ) (b : ℕ) (o : Option (List (List ℕ))) → option_map (λ others. s ∷ others) (option_and_then (λ ss. with_last_byte ss b) (option_map (λ others. t ∷ others) o)) ≡ option_and_then (λ ss. with_last_byte ss b) (option_map (λ others. s ∷ others) (option_map (λ others. t ∷ others) o))
past_first s t b None = refl
past_first s t b (Some ss) = refl

strings-with_byte : (parts : List (Part ℕ)) (b : ℕ) → strings_of (with_byte parts b) ≡ option_and_then (λ ss. with_last_byte ss b) (strings_of parts)
strings-with_byte [] b = refl
strings-with_byte (Cells cells ∷ []) b = refl
strings-with_byte (Text bytes ∷ []) b = refl
strings-with_byte (Bytes bytes ∷ []) b = refl
strings-with_byte (Whole r ∷ []) b = refl
strings-with_byte (Text bytes ∷ Text more ∷ ps) b = ap (option_map (λ others. bytes ∷ others)) (strings-with_byte (Text more ∷ ps) b) ∙ past_first bytes more b (strings_of ps)
strings-with_byte (Text bytes ∷ Cells cells ∷ ps) b = ap (option_map (λ others. bytes ∷ others)) (strings-with_byte (Cells cells ∷ ps) b)
strings-with_byte (Text bytes ∷ Bytes more ∷ ps) b = ap (option_map (λ others. bytes ∷ others)) (strings-with_byte (Bytes more ∷ ps) b)
strings-with_byte (Text bytes ∷ Whole r ∷ ps) b = ap (option_map (λ others. bytes ∷ others)) (strings-with_byte (Whole r ∷ ps) b)
strings-with_byte (Cells cells ∷ q ∷ ps) b = refl
strings-with_byte (Bytes bytes ∷ q ∷ ps) b = refl
strings-with_byte (Whole r ∷ q ∷ ps) b = refl

-- the strings with one piece more
abbrev pub more_strings : Option (List (List ℕ)) → Piece ℕ → Option (List (List ℕ))
more_strings o piece.Cells = None
more_strings o (piece.Number n) = None
more_strings o (piece.Node r) = None
more_strings o piece.Text = option_map (λ ss. ss ++ [] ∷ []) o
more_strings o piece.Bytes = None
more_strings o (piece.Byte b) = option_and_then (λ ss. with_last_byte ss b) o
more_strings o (piece.Whole r) = None

strings-with_piece : (parts : List (Part ℕ)) (p : Piece ℕ) → strings_of (with_piece parts p) ≡ more_strings (strings_of parts) p
strings-with_piece parts piece.Cells = strings-other parts (Cells []) refl
strings-with_piece parts (piece.Number n) = strings-with_cell parts (cell.Num n)
strings-with_piece parts (piece.Node r) = strings-with_cell parts (cell.Node r)
strings-with_piece parts piece.Text = strings-begin parts
strings-with_piece parts piece.Bytes = strings-other parts (Bytes []) refl
strings-with_piece parts (piece.Byte b) = strings-with_byte parts b
strings-with_piece parts (piece.Whole r) = strings-other parts (Whole r) refl

more_none : (p : Piece ℕ) → more_strings None p ≡ None
more_none piece.Cells = refl
more_none (piece.Number n) = refl
more_none (piece.Node r) = refl
more_none piece.Text = refl
more_none piece.Bytes = refl
more_none (piece.Byte b) = refl
more_none (piece.Whole r) = refl

strings-none : (ps : List (Piece ℕ)) (parts : List (Part ℕ)) → strings_of parts ≡ None → strings_of (fold with_piece parts ps) ≡ None
strings-none [] parts none = none
strings-none (p ∷ ps) parts none = strings-none ps (with_piece parts p) (strings-with_piece parts p ∙ ap (λ o. more_strings o p) none ∙ more_none p)

-- one piece more has been read
pub strings_more : (ps : List (Piece ℕ)) (i : ℕ) (d p : Piece ℕ) (o : Option (List (List ℕ))) → i < length ps → get_or ps i d ≡ p → strings_of (parts_of (take i ps)) ≡ o → strings_of (parts_of (take (i + 1) ps)) ≡ more_strings o p
strings_more ps i d p o inside here is =
    ap strings_of (parts_of_more ps i d inside)
    ∙ strings-with_piece (parts_of (take i ps)) (get_or ps i d)
    ∙ ap (more_strings (strings_of (parts_of (take i ps)))) here
    ∙ ap (λ x. more_strings x p) is

no_strings : (o : Option (List (List ℕ))) (p : Piece ℕ) → (p ≡ piece.Text → ⊥) → ((b : ℕ) → p ≡ piece.Byte b → ⊥) → more_strings o p ≡ None
no_strings o piece.Cells a b = refl
no_strings o (piece.Number n) a b = refl
no_strings o (piece.Node r) a b = refl
no_strings o piece.Text a b = absurd (a refl)
no_strings o piece.Bytes a b = refl
no_strings o (piece.Byte byte) a b = absurd (b byte refl)
no_strings o (piece.Whole r) a b = refl

-- a piece has been read behind which there are no strings
strings_end : (ps : List (Piece ℕ)) (i : ℕ) (d p : Piece ℕ) (o : Option (List (List ℕ))) → i < length ps → get_or ps i d ≡ p → strings_of (parts_of (take i ps)) ≡ o → more_strings o p ≡ None → strings_of (parts_of ps) ≡ None
strings_end ps i d p o inside here is none =
    ap strings_of (parts_of-split (i + 1) ps)
    ∙ strings-none (drop (i + 1) ps) (parts_of (take (i + 1) ps)) (strings_more ps i d p o inside here is ∙ none)

-- a piece that is of no string has been read
pub strings_other : (ps : List (Piece ℕ)) (i : ℕ) (d : Piece ℕ) → i < length ps → (get_or ps i d ≡ piece.Text → ⊥) → ((b : ℕ) → get_or ps i d ≡ piece.Byte b → ⊥) → strings_of (parts_of ps) ≡ None
strings_other ps i d inside a b =
    let o = strings_of (parts_of (take i ps)) in
    strings_end ps i d (get_or ps i d) o inside refl refl (no_strings o (get_or ps i d) a b)

-- a byte of no string has been read
pub strings_byte : (ps : List (Piece ℕ)) (i : ℕ) (d : Piece ℕ) (b : ℕ) (ss : List (List ℕ)) → i < length ps → get_or ps i d ≡ piece.Byte b → strings_of (parts_of (take i ps)) ≡ Some ss → with_last_byte ss b ≡ None → strings_of (parts_of ps) ≡ None
strings_byte ps i d b ss inside here is none = strings_end ps i d (piece.Byte b) (Some ss) inside here is none

pub with_last_byte-append : (front : List (List ℕ)) (last : List ℕ) (b : ℕ) → with_last_byte (front ++ last ∷ []) b ≡ Some (front ++ (last ++ b ∷ []) ∷ [])
with_last_byte-append [] last b = refl
with_last_byte-append (s ∷ []) last b = refl
with_last_byte-append (s ∷ t ∷ ss) last b = ap (option_map (λ others. s ∷ others)) (with_last_byte-append (t ∷ ss) last b)
