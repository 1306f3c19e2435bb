-- What holds all along the reading of a text.
use Rattle.std.proofs.Common.{◌≡◌, ℕ, ◌<◌, List, [], ◌∷◌, ◌++◌, length, Ok, subst, slice_range}
use Rattle.std.proofs.lemmas.Result.{IfOk-at_ok}
use Rattle.dts_lex.specs.declared.token.Kind.{Kind}
use Rattle.dts_lex.specs.declared.token.Kind.TheVariants as kinds
use Rattle.dts_lex.specs.declared.token.Token.{Token}
use Rattle.dts_lex.specs.declared.piece.Piece.{Piece}
use Rattle.dts_lex.specs.Lex.{comma_alone, in_cells, lexed}
use Rattle.dts_lex.specs.Shape.{AllOf, IsOfKind}
use Rattle.dts_lex.specs.declared.class.Class.TheVariants as class
use Rattle.dts_lex.specs.Standing.{RunsEnd, StandsAsNumber, NumbersStand}
use Rattle.dts_lex.proofs.ShapeLemmas.{FitsAt, piece_shape}
use Rattle.dts_lex.proofs.CoverLemmas.{AllByRecursion-push}
use Rattle.dts_lex.proofs.StandingLemmas.{Stands, StandsAt, piece_stands}
use Rattle.dts_lex.proofs.CellsLemmas.{Cells, Cells-none, Cells-push, NumbersStand-none, NumbersStand-push}
use Rattle.dts_lex.proofs.WalkLemmas.{piece_behind, GoesOn, Closes, walk_ok}

-- what holds of the tokens before a place
pub record Read (text : List ℕ) (before : List Token) : Type 0 where
  pub uncut : RunsEnd text before
  pub numbers : NumbersStand text before
  pub cells : Cells text before

pub Read-none : (text : List ℕ) → Read text []
Read-none text = record { uncut = tt; numbers = NumbersStand-none text; cells = Cells-none text }

-- a number is a run of bytes of words
number_run : (kind : Kind) (bytes : List ℕ) → IsOfKind kind bytes → kind ≡ kinds.Number → AllOf class.Word bytes
number_run kind bytes fits is = (subst (λ k. IsOfKind k bytes) is fits).0

pub Read-push : (text : List ℕ) (before : List Token) (t : Token) → Read text before → Stands text (in_cells text before) t.start t.kind t.end → IsOfKind t.kind (slice_range text t.start t.end) → Read text (before ++ t ∷ [])
Read-push text before t h stands fits =
    let number : StandsAsNumber text before t = record { run = number_run t.kind _ fits; digit = stands.digit; cells = λ is. h.cells.stands (stands.within is); only = λ digit among. stands.only digit (h.cells.told among) } in
    record { uncut = AllByRecursion-push _ before t h.uncut stands.uncut; numbers = NumbersStand-push text before t h.numbers number; cells = Cells-push text before t fits h.cells }

module _ (text : List ℕ) where
  abbrev Holds : List Token → ℕ → Type 0
  Holds before at = Read text before

  -- what the piece behind the tokens says of itself
  stands_found : (before : List Token) (at : ℕ) (p : Piece) → at < length text → piece_behind text before at ≡ Ok p → StandsAt text (in_cells text before) at p
  stands_found before at p inside is = IfOk-at_ok (StandsAt text (in_cells text before) at) is (piece_stands text (in_cells text before) at inside (comma_alone text before))

  fits_found : (before : List Token) (at : ℕ) (p : Piece) → at < length text → piece_behind text before at ≡ Ok p → FitsAt text at p
  fits_found before at p inside is = IfOk-at_ok (FitsAt text at) is (piece_shape text at inside (comma_alone text before) (in_cells text before))

  pub goes_on : GoesOn text Holds
  goes_on = record {
    gap = λ before at end inside forward within h is. h;
    token = λ before at end kind inside forward within h is. Read-push text before (record { kind = kind; start = at; end = end }) h (stands_found before at _ inside is) (fits_found before at _ inside is);
  }

  closes : Closes text Holds (Read text)
  closes = record {
    last = λ before at end kind inside forward within h is. Read-push text before (record { kind = kind; start = at; end = end }) h (stands_found before at _ inside is) (fits_found before at _ inside is).0;
    all = λ before at past h. h;
  }

-- what holds of the tokens of a text
pub lexed_read : (text : List ℕ) (tokens : List Token) → lexed text ≡ Ok tokens → Read text tokens
lexed_read text tokens is = walk_ok text (Holds text) (Read text) (goes_on text) (closes text) (Read-none text) tokens is
