-- What the bytes of a token are, and the bytes between tokens.
use Rattle.std.specs.Prelude.{◌≡◌, ℕ, ◌-◌, ◌<◌, ◌⊎◌, List, [], ◌∷◌, ◌++◌, Bool, true, false, not, ◌&&◌, ◌||◌, Some, IsOk, length, take, slice_get, codes, slice_range}
use Rattle.std.specs.List.{AllByRecursion}
use Rattle.std.specs.Str.{bytes_eq}
use Rattle.dts_lex.specs.declared.token.Kind.{Kind}
use Rattle.dts_lex.specs.declared.token.Kind.TheVariants.{Word, Number, Text, Directive, Ref, Sign}
use Rattle.dts_lex.specs.declared.token.Token.{Token}
use Rattle.dts_lex.specs.declared.class.Class.{Class}
use Rattle.dts_lex.specs.declared.class.Class.TheVariants as class
use Rattle.dts_lex.specs.Bytes.{is_in, is_blank, is_label_start, is_plain, is_escaped}
use Rattle.dts_lex.specs.Class.{has}
use Rattle.dts_lex.specs.Number.{number_of}
use Rattle.dts_lex.specs.Piece.{is_preprocessor, is_version}
use Rattle.dts_lex.specs.Scan.{begins_line}

-- bytes of one class alone
abbrev pub AllOf : Class → List ℕ → Type 0
AllOf class bytes = AllByRecursion (λ b. has class b ≡ true) bytes

-- the inside of a string: bytes that stand for themselves, and escapes, each a backslash and a byte
pub data IsInside : List ℕ → Type 0 where
  empty : IsInside []
  plain : {b : ℕ} {rest : List ℕ} → is_plain b ≡ true → IsInside rest → IsInside (b ∷ rest)
  escape : {c : ℕ} {rest : List ℕ} → is_escaped c ≡ true → IsInside rest → IsInside (92 ∷ c ∷ rest)

-- a sign: one byte, but for the start of a path
abbrev pub IsSign : List ℕ → Type 0
IsSign bytes = ((b : ℕ) × (bytes ≡ b ∷ []) × (is_in (codes "{};=:<>[],/(") b ≡ true)) ⊎ (bytes ≡ codes "&{")

-- what the bytes of a token are, by its kind: 34 is the quote, 47 the slash, 38 the ampersand
abbrev pub IsOfKind : Kind → List ℕ → Type 0
IsOfKind Word bytes = (0 < length bytes) × AllOf class.Word bytes
IsOfKind Number bytes = AllOf class.Word bytes × IsOk (number_of bytes)
IsOfKind Text bytes = (inside : List ℕ) × (bytes ≡ 34 ∷ inside ++ 34 ∷ []) × IsInside inside
IsOfKind Directive bytes = (name : List ℕ) × (bytes ≡ 47 ∷ name ++ 47 ∷ []) × AllOf class.Directive name
IsOfKind Ref bytes = (first : ℕ) × (others : List ℕ) × (bytes ≡ 38 ∷ first ∷ others) × (is_label_start first ≡ true) × AllOf class.Label others
IsOfKind Sign bytes = IsSign bytes

-- no star with a slash behind it
abbrev pub HoldsNoEnd : List ℕ → Type 0
HoldsNoEnd [] = Unit {0}
HoldsNoEnd (b ∷ []) = Unit {0}
HoldsNoEnd (b ∷ c ∷ rest) = ((b ≡ 42) × (c ≡ 47) → ⊥) × HoldsNoEnd (c ∷ rest)

-- a comment: two slashes and the line without its newline, or a slash and a star up to the first star
-- and slash
pub data IsComment : List ℕ → Type 0 where
  line : (inside : List ℕ) → AllOf class.Line inside → IsComment (47 ∷ 47 ∷ inside)
  block : (inside : List ℕ) → HoldsNoEnd inside → IsComment (47 ∷ 42 ∷ inside ++ 42 ∷ 47 ∷ [])

-- blanks and comments, one after another
pub data IsGap : List ℕ → Type 0 where
  empty : IsGap []
  blank : (b : ℕ) (rest : List ℕ) → is_blank b ≡ true → IsGap rest → IsGap (b ∷ rest)
  comment : (bytes rest : List ℕ) → IsComment bytes → IsGap rest → IsGap (bytes ++ rest)

-- whether nothing is looked at behind a token, by its kind, the text before it and its bytes: behind a
-- word of the preprocessor at the head of its line, a directive other than /dts-v1/, ( and &{
abbrev pub is_last_of : Kind → List ℕ → List ℕ → Bool
is_last_of Word front bytes = is_preprocessor bytes && begins_line front
is_last_of Directive front bytes = not (is_version bytes)
is_last_of Sign front bytes = bytes_eq bytes (codes "(") || bytes_eq bytes (codes "&{")
is_last_of Number front bytes = false
is_last_of Text front bytes = false
is_last_of Ref front bytes = false

-- the same of a token of the text
abbrev pub is_last : List ℕ → Token → Bool
is_last text t = is_last_of t.kind (take t.start text) (slice_range text t.start t.end)

-- each token's bytes are of its kind
abbrev pub KindsFit : List ℕ → List Token → Type 0
KindsFit text tokens = AllByRecursion (λ t. IsOfKind t.kind (slice_range text t.start t.end)) tokens

-- between two places there is nothing beside the tokens but gaps
abbrev pub GapsBetween : List ℕ → ℕ → ℕ → List Token → Type 0
GapsBetween text from to [] = IsGap (slice_range text from to)
GapsBetween text from to (t ∷ ts) = IsGap (slice_range text from t.start) × GapsBetween text t.end to ts

-- the tokens leave nothing of the text but gaps, up to its end or to the end of a token behind which
-- nothing is looked at
pub record Covers (text : List ℕ) (tokens : List Token) : Type 0 where
  pub to : ℕ
  pub gaps : GapsBetween text 0 to tokens
  pub ends : (to ≡ length text) ⊎ ((t : Token) × (slice_get tokens (length tokens - 1) ≡ Some t) × (t.end ≡ to) × (is_last text t ≡ true))
