-- What tokens say.
use Rattle.std.specs.Prelude.{ℕ, ◌+◌, ◌*◌, ◌-◌, ◌%◌, List, [], ◌∷◌, Bool, not, ◌&&◌, ◌==◌, Result, Ok, Err, length, slice_index, slice_range, if◌then◌else◌}
use Rattle.std.specs.List.{list_all}
use Rattle.std.specs.Char.{digit_value, is_digit}
use Rattle.dts_lex.specs.Shape.{is_last}
use Rattle.dts_lex.specs.Number.{number_of}
use Rattle.dts_lex.specs.declared.number.NumberFault.{NumberFault}
use Rattle.dts_lex.specs.declared.token.Kind.{Kind}
use Rattle.dts_lex.specs.declared.token.Kind.TheVariants as kind
use Rattle.dts_lex.specs.declared.token.Token.{Token}

-- a sign, a word, a number, a string by the bytes that it stands for, or a reference by its label; what
-- stands in no text is foreign
pub data Lexeme : Type 0 where
  Version : Lexeme
  Semicolon : Lexeme
  Colon : Lexeme
  Equals : Lexeme
  Comma : Lexeme
  Slash : Lexeme
  Open : Lexeme
  Close : Lexeme
  Less : Lexeme
  Greater : Lexeme
  Left : Lexeme
  Right : Lexeme
  Word : List ℕ → Lexeme
  Number : ℕ → Lexeme
  String : List ℕ → Lexeme
  Ref : List ℕ → Lexeme
  Foreign : Lexeme

-- a word without an at sign (64)
unfoldable pub may_name_property : List ℕ → Bool
may_name_property word = list_all (λ b. not (b == 64)) word

-- a word of two hexadecimal digits for each byte
unfoldable pub is_bytes : List ℕ → Bool
is_bytes word = length word % 2 == 0 && list_all (λ b. is_digit b 16) word

-- the bytes of such a word
abbrev pub bytes_of : List ℕ → List ℕ
bytes_of [] = []
bytes_of (a ∷ []) = []
bytes_of (a ∷ b ∷ word) = (digit_value a * 16 + digit_value b) ∷ bytes_of word

-- what a byte behind a backslash (92) stands for: a newline, a tab or itself
unfoldable pub escaped : ℕ → ℕ
escaped b = if b == 110 then 10 else (if b == 116 then 9 else b)

-- the bytes that the inside of a string stands for
abbrev pub unescaped : List ℕ → List ℕ
unescaped [] = []
unescaped (b ∷ []) = b ∷ []
unescaped (b ∷ c ∷ rest) = if b == 92 then escaped c ∷ unescaped rest else b ∷ unescaped (c ∷ rest)

-- each NUMBER of a text spells a number
abbrev pub or_zero : Result ℕ NumberFault → ℕ
or_zero (Ok n) = n
or_zero (Err fault) = 0

-- a sign by its byte
unfoldable pub sign_of : ℕ → Lexeme
sign_of b =
    if b == 59 {- ; -} then Semicolon
    else (if b == 58 {- : -} then Colon
    else (if b == 61 {- = -} then Equals
    else (if b == 44 {- , -} then Comma
    else (if b == 47 {- / -} then Slash
    else (if b == 123 {- { -} then Open
    else (if b == 125 {- } -} then Close
    else (if b == 60 {- < -} then Less
    else (if b == 62 {- > -} then Greater
    else (if b == 91 {- [ -} then Left
    else (if b == 93 {- ] -} then Right
    else Foreign))))))))))

-- a token by its kind; a string without its quotes, a reference without its ampersand
abbrev pub said_by : Kind → List ℕ → Token → Lexeme
said_by kind.Word text t = Word (slice_range text t.start t.end)
said_by kind.Number text t = Number (or_zero (number_of (slice_range text t.start t.end)))
said_by kind.Text text t = String (unescaped (slice_range text (t.start + 1) (t.end - 1)))
said_by kind.Directive text t = Version
said_by kind.Ref text t = Ref (slice_range text (t.start + 1) t.end)
said_by kind.Sign text t = sign_of (slice_index text t.start)

-- a token of a text; one behind which nothing is looked at is foreign
unfoldable pub lexeme_of : List ℕ → Token → Lexeme
lexeme_of text t = if is_last text t then Foreign else said_by t.kind text t
