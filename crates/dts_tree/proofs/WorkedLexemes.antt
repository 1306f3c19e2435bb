-- What tokens say, worked out by hand.
use Rattle.std.specs.Prelude.{◌≡◌, ℕ, List, [], ◌∷◌, ◌++◌, Ok, Err, true, false, codes}
use Rattle.std.proofs.Common.{refl}
use Rattle.dts_lex.specs.declared.number.NumberFault.TheVariants.{Malformed, TooWide}
use Rattle.dts_lex.specs.declared.token.Kind.{Kind}
use Rattle.dts_lex.specs.declared.token.Kind.TheVariants as kind
use Rattle.dts_lex.specs.declared.token.Token.{Token}
use Rattle.dts_lex.specs.Bytes.{is_blank}
use Rattle.dts_lex.specs.Number.{number_of, digits_and_suffix, is_suffix}
use Rattle.dts_lex.specs.Piece.{is_version, is_preprocessor}
use Rattle.dts_lex.specs.Scan.{begins_line}
use Rattle.dts_tree.specs.Lexeme.{Lexeme, Version, Semicolon, Colon, Equals, Comma, Slash, Open, Close, Less, Greater, Left, Right, Word, Number, String, Ref, Foreign, may_name_property, is_bytes, bytes_of, escaped, unescaped, or_zero, sign_of, said_by, lexeme_of}

-- a token by its kind, its first byte and the one behind it
abbrev pub token : Kind → ℕ → ℕ → Token
token kind start end = record { kind = kind; start = start; end = end }

-- the reading of a token, with all that it computes
unfoldable pub reading : List ℕ → Token → Lexeme
unfolding lexeme_of sign_of escaped number_of digits_and_suffix is_suffix is_version is_preprocessor begins_line is_blank
reading text t = lexeme_of text t

-- the at sign stands in no property's name, wherever it stands; the bytes beside it may
property_plain : may_name_property (codes "vin-supply,#x.y_z+?A") ≡ true
unfolding may_name_property
property_plain = refl

property_empty : may_name_property [] ≡ true
unfolding may_name_property
property_empty = refl

property_at_inside : may_name_property (codes "a@1") ≡ false
unfolding may_name_property
property_at_inside = refl

property_at_first : may_name_property (codes "@b") ≡ false
unfolding may_name_property
property_at_first = refl

property_at_last : may_name_property (codes "b@") ≡ false
unfolding may_name_property
property_at_last = refl

-- two hexadecimal digits for each byte, in any case
two_bytes : is_bytes (codes "0aFF") ≡ true
unfolding is_bytes
two_bytes = refl

no_bytes : is_bytes [] ≡ true
unfolding is_bytes
no_bytes = refl

digits_odd : is_bytes (codes "0aF") ≡ false
unfolding is_bytes
digits_odd = refl

one_digit : is_bytes (codes "9") ≡ false
unfolding is_bytes
one_digit = refl

six_digits : is_bytes (codes "09afAF") ≡ true
unfolding is_bytes
six_digits = refl

letter_past_f : is_bytes (codes "0g") ≡ false
unfolding is_bytes
letter_past_f = refl

large_letter_past_f : is_bytes (codes "G0") ≡ false
unfolding is_bytes
large_letter_past_f = refl

bytes_of_two : bytes_of (codes "0aFF") ≡ 10 ∷ 255 ∷ []
bytes_of_two = refl

bytes_of_ends : bytes_of (codes "9F00f1") ≡ 159 ∷ 0 ∷ 241 ∷ []
bytes_of_ends = refl

bytes_of_none : bytes_of [] ≡ []
bytes_of_none = refl

bytes_of_half : bytes_of (codes "7") ≡ []
bytes_of_half = refl

-- a newline, a tab, and what stands for itself
escaped_n : escaped 110 ≡ 10
unfolding escaped
escaped_n = refl

escaped_t : escaped 116 ≡ 9
unfolding escaped
escaped_t = refl

escaped_quote : escaped 34 ≡ 34
unfolding escaped
escaped_quote = refl

escaped_backslash : escaped 92 ≡ 92
unfolding escaped
escaped_backslash = refl

unescaped_none : unescaped [] ≡ []
unescaped_none = refl

unescaped_plain : unescaped (codes "ant") ≡ codes "ant"
unescaped_plain = refl

unescaped_newline : unescaped (97 ∷ 92 ∷ 110 ∷ 98 ∷ []) ≡ 97 ∷ 10 ∷ 98 ∷ []
unfolding escaped
unescaped_newline = refl

unescaped_tab_last : unescaped (97 ∷ 92 ∷ 116 ∷ []) ≡ 97 ∷ 9 ∷ []
unfolding escaped
unescaped_tab_last = refl

-- a backslash behind a backslash, and an n behind both
unescaped_backslash : unescaped (92 ∷ 92 ∷ 110 ∷ []) ≡ 92 ∷ 110 ∷ []
unfolding escaped
unescaped_backslash = refl

unescaped_quotes : unescaped (92 ∷ 34 ∷ 92 ∷ 34 ∷ []) ≡ 34 ∷ 34 ∷ []
unfolding escaped
unescaped_quotes = refl

unescaped_past_backslash : unescaped (93 ∷ 110 ∷ []) ≡ 93 ∷ 110 ∷ []
unescaped_past_backslash = refl

a_number : or_zero (Ok 7) ≡ 7
a_number = refl

no_number : or_zero (Err Malformed) ≡ 0
no_number = refl

wide_number : or_zero (Err TooWide) ≡ 0
wide_number = refl

-- each sign by its byte, and two that are none
semicolon : sign_of 59 ≡ Semicolon
unfolding sign_of
semicolon = refl

colon : sign_of 58 ≡ Colon
unfolding sign_of
colon = refl

equals : sign_of 61 ≡ Equals
unfolding sign_of
equals = refl

comma : sign_of 44 ≡ Comma
unfolding sign_of
comma = refl

slash : sign_of 47 ≡ Slash
unfolding sign_of
slash = refl

brace : sign_of 123 ≡ Open
unfolding sign_of
brace = refl

closing_brace : sign_of 125 ≡ Close
unfolding sign_of
closing_brace = refl

less : sign_of 60 ≡ Less
unfolding sign_of
less = refl

greater : sign_of 62 ≡ Greater
unfolding sign_of
greater = refl

bracket : sign_of 91 ≡ Left
unfolding sign_of
bracket = refl

closing_bracket : sign_of 93 ≡ Right
unfolding sign_of
closing_bracket = refl

parenthesis : sign_of 40 ≡ Foreign
unfolding sign_of
parenthesis = refl

ampersand : sign_of 38 ≡ Foreign
unfolding sign_of
ampersand = refl

-- tokens by their kinds: a word, a number, a string, a directive, a reference and a sign
word_said : said_by kind.Word (codes ";x@1 y") (token kind.Word 1 4) ≡ Word (codes "x@1")
word_said = refl

number_said : said_by kind.Number (codes "<0x1F 017>") (token kind.Number 1 5) ≡ Number 31
unfolding reading
number_said = refl

octal_said : said_by kind.Number (codes "<0x1F 017>") (token kind.Number 6 9) ≡ Number 15
unfolding reading
octal_said = refl

string_said : said_by kind.Text (61 ∷ 34 ∷ 97 ∷ 92 ∷ 110 ∷ 34 ∷ 59 ∷ []) (token kind.Text 1 6) ≡ String (97 ∷ 10 ∷ [])
unfolding reading
string_said = refl

empty_string_said : said_by kind.Text (34 ∷ 34 ∷ []) (token kind.Text 0 2) ≡ String []
empty_string_said = refl

directive_said : said_by kind.Directive (codes " /dts-v1/;") (token kind.Directive 1 9) ≡ Version
directive_said = refl

reference_said : said_by kind.Ref (codes "<&l_1>") (token kind.Ref 1 5) ≡ Ref (codes "l_1")
reference_said = refl

sign_said : said_by kind.Sign (codes "a=<") (token kind.Sign 2 3) ≡ Less
unfolding reading
sign_said = refl

-- what stands in no text is foreign: a word of the preprocessor at the head of its line, another
-- directive, a parenthesis and a path
head_of_line : lexeme_of (codes "a" ++ 10 ∷ codes " #include") (token kind.Word 3 11) ≡ Foreign
unfolding reading
head_of_line = refl

within_line : lexeme_of (codes "a #include") (token kind.Word 2 10) ≡ Word (codes "#include")
unfolding reading
within_line = refl

other_directive : lexeme_of (codes "/delete-node/ a") (token kind.Directive 0 13) ≡ Foreign
unfolding reading
other_directive = refl

version : lexeme_of (codes "/dts-v1/;") (token kind.Directive 0 8) ≡ Version
unfolding reading
version = refl

path : lexeme_of (codes "&{") (token kind.Sign 0 2) ≡ Foreign
unfolding reading
path = refl

slash_read : lexeme_of (codes "/{") (token kind.Sign 0 1) ≡ Slash
unfolding reading
slash_read = refl

string_read : lexeme_of (34 ∷ 92 ∷ 34 ∷ 34 ∷ []) (token kind.Text 0 4) ≡ String (34 ∷ [])
unfolding reading
string_read = refl
