-- What a fault tells of its text. Bytes are written by their codes, with the character beside them.
use Rattle.std.specs.Prelude.{◌≡◌, ◌≢◌, ℕ, ◌+◌, ◌<◌, ◌⊎◌, List, [], ◌∷◌, ◌++◌, true, false, Ok, length, take, drop, slice_index, slice_range, codes}
use Rattle.std.specs.Char.{is_ascii_digit}
use Rattle.dts_lex.specs.declared.fault.LexFault.{LexFault}
use Rattle.dts_lex.specs.declared.fault.LexFault.TheVariants.{BadChar, Unclosed, NumberTooWide, Memory}
use Rattle.dts_lex.specs.declared.token.Kind.TheVariants.{Sign}
use Rattle.dts_lex.specs.declared.token.Token.{Token}
use Rattle.dts_lex.specs.declared.class.Class.TheVariants as class
use Rattle.dts_lex.specs.Bytes.{is_in, is_blank, is_label_start, is_plain, is_escaped}
use Rattle.dts_lex.specs.Class.{has}
use Rattle.dts_lex.specs.Lex.{lexed}
use Rattle.dts_lex.specs.Shape.{AllOf, IsInside, HoldsNoEnd}
use Rattle.dts_lex.specs.Spelling.{Spells}
use Rattle.dts_lex.specs.Standing.{HasNoneAt, RunsEnd, StandsAmongCells}

-- a string begins at a place, and the text ends inside it: behind its last byte, or behind a backslash
pub record IsOpenString (text : List ℕ) (at : ℕ) : Type 0 where
  pub inside : List ℕ
  pub left : List ℕ
  pub bytes : drop at text ≡ 34 {- " -} ∷ inside ++ left
  pub stands : IsInside inside
  pub ends : (left ≡ []) ⊎ (left ≡ 92 {- \ -} ∷ [])

-- a comment begins at a place, and no star and slash end it
pub record IsOpenComment (text : List ℕ) (at : ℕ) : Type 0 where
  pub inside : List ℕ
  pub bytes : drop at text ≡ 47 {- / -} ∷ 42 {- * -} ∷ inside
  pub no_end : HoldsNoEnd inside

-- what may not stand next in a string: a byte that doesn't stand for itself and is neither the quote
-- nor a backslash, or a backslash before a byte that has no escape
pub data MayNotStand : List ℕ → Type 0 where
  byte : {b : ℕ} {rest : List ℕ} → is_plain b ≡ false → b ≢ 34 {- " -} → b ≢ 92 {- \ -} → MayNotStand (b ∷ rest)
  escape : {c : ℕ} {rest : List ℕ} → is_escaped c ≡ false → MayNotStand (92 {- \ -} ∷ c ∷ rest)

-- the string that begins at a place goes on up to another, where a byte or an escape may not stand
pub record IsBrokenString (text : List ℕ) (at place : ℕ) : Type 0 where
  pub inside : List ℕ
  pub left : List ℕ
  pub bytes : drop at text ≡ 34 {- " -} ∷ inside ++ left
  pub stands : IsInside inside
  pub behind : place ≡ at + 1 + length inside
  pub bad : MayNotStand left

-- nothing begins at a place: no blank, word, string or sign, and no reference or path at an ampersand
pub record BeginsNothing (text : List ℕ) (at : ℕ) : Type 0 where
  pub within : at < length text
  pub no_blank : is_blank (slice_index text at) ≡ false
  pub no_word : has class.Word (slice_index text at) ≡ false
  pub no_sign : is_in (codes "{};=:<>[](/") (slice_index text at) ≡ false
  pub no_string : slice_index text at ≢ 34 {- " -}
  pub no_path : slice_index text at ≡ 38 {- & -} → slice_index text (at + 1) ≢ 123 {- { -}
  pub no_ref : slice_index text at ≡ 38 {- & -} → is_label_start (slice_index text (at + 1)) ≡ false

-- a word that has to be a number stands at a place: a whole run among cells that begins with a digit
pub record HasToCount (text : List ℕ) (before : List Token) (at : ℕ) (word : List ℕ) : Type 0 where
  pub end : ℕ
  pub some : at < end
  pub bytes : slice_range text at end ≡ word
  pub run : AllOf class.Word word
  pub stops : HasNoneAt class.Word text end
  pub digit : is_ascii_digit (slice_index text at) ≡ true
  pub cells : StandsAmongCells text before

-- it spells no number
abbrev pub IsMalformed : List ℕ → List Token → ℕ → Type 0
IsMalformed text before at = (word : List ℕ) × HasToCount text before at word × ((n : ℕ) → Spells word n → ⊥)

-- it spells a number that has no 32 bits
abbrev pub IsTooWide : List ℕ → List Token → ℕ → Type 0
IsTooWide text before at = (word : List ℕ) × (n : ℕ) × HasToCount text before at word × Spells word n × (4294967295 < n)

-- why a text can't be read on at a place behind these tokens, by the fault that tells it
abbrev pub Stops : List ℕ → List Token → ℕ → LexFault → Type 0
Stops text before at (Unclosed place) = (place ≡ at) × (IsOpenString text at ⊎ IsOpenComment text at)
Stops text before at (BadChar place) = IsBrokenString text at place ⊎ ((place ≡ at) × (BeginsNothing text at ⊎ IsMalformed text before at))
Stops text before at (NumberTooWide place) = (place ≡ at) × IsTooWide text before at
Stops text before at Memory = ⊥

-- a fault tells of the first piece that can't be read: up to there the text has tokens, none of them is
-- cut in two there and no comment is open, since a semicolon in the piece's place would be the next
pub record Tells (text : List ℕ) (fault : LexFault) : Type 0 where
  pub at : ℕ
  pub before : List Token
  pub read : lexed (take at text) ≡ Ok before
  pub uncut : RunsEnd text before
  pub next : lexed (take at text ++ codes ";") ≡ Ok (before ++ record { kind = Sign; start = at; end = at + 1 } ∷ [])
  pub stops : Stops text before at fault
