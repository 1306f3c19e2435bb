-- Why another book of one of all rails changes nothing else.
use Rattle.std.proofs.Common.{◌≡◌, ℕ, ◌<◌, Bool, true, false, cond, eqb, List, refl, sym, ap, subst, ◌∙◌, length, slice_set, eq-eqb}
use Rattle.std.specs.Prelude.{Contains, slice_index_or, if◌then◌else◌, ◌==◌}
use Rattle.std.proofs.lemmas.Bool.{eqb-true, false≢true}
use Rattle.std.proofs.lemmas.List.{length-set, length-map, get_or-set_same, get_or-set_other}
use Rattle.board_graph.specs.Graph.{count_of}
use Rattle.board_graph.specs.Sets.{rails_of}
use Rattle.board_graph.proofs.Growth.{rail_is, taken_from}
use Rattle.board.specs.declared.board.Board.{Board}
use Rattle.board.specs.Valid.{IsValid}
use Rattle.use_counts.specs.Book.{Book}
use Rattle.rail_ops.specs.Inside.Alone.{Fits, no_book}

-- a book put at a place
book_at : (books : List Book) (r i : ℕ) (book : Book) → r < length books → (t : Bool) → eqb i r ≡ t
    → slice_index_or (slice_set books r book) i no_book ≡ cond t book (slice_index_or books i no_book)
book_at books r i book within true is = ap (λ k. slice_index_or (slice_set books r book) k no_book) (eqb-true i r is) ∙ get_or-set_same books r book no_book within
book_at books r i book within false is = get_or-set_other books r i book no_book (λ same. false≢true (sym is ∙ eq-eqb i r same))

-- the graph has as many rails as the board
pub count_rails : (board : Board) → IsValid board → length board.rails ≡ count_of board.graph
count_rails board valid = sym (ap length valid.sound.graph.groups ∙ length-map board.rails _)

pub rail_within : (board : Board) → IsValid board → (r : ℕ) → Contains (rails_of board.graph) r → r < length board.rails
rail_within board valid r has = subst (λ (n : ℕ). r < n) (sym (count_rails board valid)) (rail_is board.graph r (taken_from (rails_of board.graph) r has))

module _ (board : Board) (regs : List (List ℕ)) (books : List Book) (fits : Fits board regs books) (r : ℕ) (book : Book) where
  pub fits_with_book : Fits board regs (slice_set books r book)
  fits_with_book = record { valid = fits.valid; as_many = length-set books r book ∙ fits.as_many; hold = fits.hold; chips = fits.chips }

  pub book_with_book : (i : ℕ) → Contains (rails_of board.graph) r
      → slice_index_or (slice_set books r book) i no_book ≡ (if i == r then book else slice_index_or books i no_book)
  book_with_book i has = book_at books r i book (subst (λ (n : ℕ). r < n) (sym fits.as_many) (rail_within board fits.valid r has)) (eqb i r) refl

-- each rail has a book
pub rail_has_book : (board : Board) (regs : List (List ℕ)) (books : List Book) → Fits board regs books → (r : ℕ) → Contains (rails_of board.graph) r → r < length books
rail_has_book board regs books fits r has = subst (λ (n : ℕ). r < n) (sym fits.as_many) (rail_within board fits.valid r has)
