-- How a token stands among the bytes and the tokens about it.
use Rattle.std.specs.Prelude.{◌≡◌, ◌≢◌, ℕ, ◌+◌, ◌<◌, List, [], ◌∷◌, ◌++◌, true, false, length, slice_index, slice_range, drop}
use Rattle.std.specs.List.{AllByRecursion}
use Rattle.std.specs.Char.{is_ascii_digit}
use Rattle.dts_lex.specs.declared.token.Kind.{Kind}
use Rattle.dts_lex.specs.declared.token.Kind.TheVariants.{Word, Number, Text, Directive, Ref, Sign}
use Rattle.dts_lex.specs.declared.token.Token.{Token}
use Rattle.dts_lex.specs.declared.class.Class.{Class}
use Rattle.dts_lex.specs.declared.class.Class.TheVariants as class
use Rattle.dts_lex.specs.Class.{has}
use Rattle.dts_lex.specs.Shape.{AllOf}

-- a place with no byte of the class: another byte stands there, or none
abbrev pub HasNoneAt : Class → List ℕ → ℕ → Type 0
HasNoneAt class text at = at < length text → has class (slice_index text at) ≡ false

-- what may follow a slash that is a sign: no star (42), and no name with a slash (47) behind it, so
-- neither a comment nor a directive begins with it
pub record FollowsLoneSlash (rest : List ℕ) : Type 0 where
  pub no_star : slice_index rest 0 ≢ 42
  pub no_close : (name more : List ℕ) → AllOf class.Directive name → rest ≢ name ++ 47 ∷ more

-- a token that isn't cut in two, by its kind: what could be more of it doesn't follow, and a directive
-- ends with its second slash
abbrev pub IsUncut : Kind → List ℕ → ℕ → ℕ → Type 0
IsUncut Word text start end = HasNoneAt class.Word text end
IsUncut Number text start end = HasNoneAt class.Word text end
IsUncut Ref text start end = HasNoneAt class.Label text end
IsUncut Directive text start end = (name : List ℕ) × (slice_range text start end ≡ 47 ∷ name ++ 47 ∷ []) × AllByRecursion (λ b. b ≢ 47) name
IsUncut Sign text start end = slice_index text start ≡ 47 → FollowsLoneSlash (drop (start + 1) text)
IsUncut Text text start end = Unit {0}

-- no token is cut in two
abbrev pub RunsEnd : List ℕ → List Token → Type 0
RunsEnd text tokens = AllByRecursion (λ t. IsUncut t.kind text t.start t.end) tokens

-- a token is the sign that is this byte
abbrev pub IsTheSign : List ℕ → ℕ → Token → Type 0
IsTheSign text b t = (t.kind ≡ Sign) × (slice_range text t.start t.end ≡ b ∷ [])

-- what stands behind these tokens stands among cells: there is a < (60), and no > (62) behind it
pub record StandsAmongCells (text : List ℕ) (before : List Token) : Type 0 where
  pub front : List Token
  pub opening : Token
  pub since : List Token
  pub parts : before ≡ front ++ opening ∷ since
  pub opens : IsTheSign text 60 opening
  pub stays : AllByRecursion (λ t. IsTheSign text 62 t → ⊥) since

-- a token begins with a digit
abbrev pub BeginsWithDigit : List ℕ → Token → Type 0
BeginsWithDigit text t = is_ascii_digit (slice_index text t.start) ≡ true

-- a token is a number exactly where it is a run of bytes of words, begins with a digit and stands
-- among cells; so no word there begins with a digit
pub record StandsAsNumber (text : List ℕ) (before : List Token) (t : Token) : Type 0 where
  pub run : t.kind ≡ Number → AllOf class.Word (slice_range text t.start t.end)
  pub digit : t.kind ≡ Number → BeginsWithDigit text t
  pub cells : t.kind ≡ Number → StandsAmongCells text before
  pub only : BeginsWithDigit text t → StandsAmongCells text before → t.kind ≡ Number

-- the same of each token and those before it
abbrev pub NumbersStand : List ℕ → List Token → Type 0
NumbersStand text tokens = (before after : List Token) (t : Token) → tokens ≡ before ++ t ∷ after → StandsAsNumber text before t
