-- Small texts and their tokens, or their first fault, worked out by hand.
use Rattle.std.specs.Prelude.{◌≡◌, ℕ, List, [], ◌∷◌, ◌++◌, Result, Ok, Err, codes}
use Rattle.std.proofs.Common.{refl}
use Rattle.dts_lex.specs.declared.fault.LexFault.{LexFault}
use Rattle.dts_lex.specs.declared.fault.LexFault.TheVariants.{BadChar, Unclosed, NumberTooWide}
use Rattle.dts_lex.specs.declared.token.Kind.{Kind}
use Rattle.dts_lex.specs.declared.token.Kind.TheVariants.{Word, Number, Text, Directive, Ref, Sign}
use Rattle.dts_lex.specs.declared.token.Token.{Token}
use Rattle.dts_lex.specs.Bytes.{is_blank, is_label_start, is_sign, is_plain, is_escaped}
use Rattle.dts_lex.specs.Class.{has}
use Rattle.dts_lex.specs.Scan.{run_end, begins_line}
use Rattle.dts_lex.specs.Number.{is_suffix, digits_and_suffix, number_of}
use Rattle.dts_lex.specs.Piece.{is_version, is_preprocessor, slash_at, ref_at, word_at, piece_at}
use Rattle.dts_lex.specs.Lex.{comma_alone, in_cells, lexed_from, lexed}

-- a token by its kind, its first byte and the one behind it
abbrev pub token : Kind → ℕ → ℕ → Token
token kind start end = record { kind = kind; start = start; end = end }

-- the reading of a text, with all that it computes
unfoldable pub reading : List ℕ → Result (List Token) LexFault
unfolding lexed lexed_from piece_at slash_at ref_at word_at run_end begins_line has is_blank is_label_start is_sign is_plain is_escaped is_version is_preprocessor number_of digits_and_suffix is_suffix comma_alone in_cells
reading text = lexed text

-- nothing, and blanks alone
empty : lexed [] ≡ Ok []
unfolding reading
empty = refl

blanks : lexed (codes " " ++ 9 ∷ 13 ∷ 10 ∷ []) ≡ Ok []
unfolding reading
blanks = refl

-- each kind of token
version : lexed (codes "/dts-v1/;") ≡ Ok (token Directive 0 8 ∷ token Sign 8 9 ∷ [])
unfolding reading
version = refl

cells : lexed (codes "a{b=<1 &c>;};") ≡ Ok (token Word 0 1 ∷ token Sign 1 2 ∷ token Word 2 3 ∷ token Sign 3 4 ∷ token Sign 4 5 ∷ token Number 5 6 ∷ token Ref 7 9 ∷ token Sign 9 10 ∷ token Sign 10 11 ∷ token Sign 11 12 ∷ token Sign 12 13 ∷ [])
unfolding reading
cells = refl

string : lexed (codes "p=" ++ 34 ∷ codes "x" ++ 34 ∷ codes ";") ≡ Ok (token Word 0 1 ∷ token Sign 1 2 ∷ token Text 2 5 ∷ token Sign 5 6 ∷ [])
unfolding reading
string = refl

signs : lexed (codes "{};=:<>[]/") ≡ Ok (token Sign 0 1 ∷ token Sign 1 2 ∷ token Sign 2 3 ∷ token Sign 3 4 ∷ token Sign 4 5 ∷ token Sign 5 6 ∷ token Sign 6 7 ∷ token Sign 7 8 ∷ token Sign 8 9 ∷ token Sign 9 10 ∷ [])
unfolding reading
signs = refl

word : lexed (codes "A.z_+-?#@9,") ≡ Ok (token Word 0 11 ∷ [])
unfolding reading
word = refl

reference : lexed (codes "&l-m") ≡ Ok (token Ref 0 2 ∷ token Word 2 4 ∷ [])
unfolding reading
reference = refl

long_reference : lexed (codes "&_a9 ") ≡ Ok (token Ref 0 4 ∷ [])
unfolding reading
long_reference = refl

-- behind these nothing is looked at
parenthesis : lexed (codes "(*") ≡ Ok (token Sign 0 1 ∷ [])
unfolding reading
parenthesis = refl

path : lexed (codes "&{*") ≡ Ok (token Sign 0 2 ∷ [])
unfolding reading
path = refl

directive : lexed (codes "/delete-node/*") ≡ Ok (token Directive 0 13 ∷ [])
unfolding reading
directive = refl

other_version : lexed (codes "/dts-v2/*") ≡ Ok (token Directive 0 8 ∷ [])
unfolding reading
other_version = refl

-- behind /dts-v1/ the text goes on, wherever it stands
version_goes_on : lexed (codes "/dts-v1/ a") ≡ Ok (token Directive 0 8 ∷ token Word 9 10 ∷ [])
unfolding reading
version_goes_on = refl

late_version : lexed (codes "a/dts-v1/b") ≡ Ok (token Word 0 1 ∷ token Directive 1 9 ∷ token Word 9 10 ∷ [])
unfolding reading
late_version = refl

-- a slash that is no directive
name_without_end : lexed (codes "/a b") ≡ Ok (token Sign 0 1 ∷ token Word 1 2 ∷ token Word 3 4 ∷ [])
unfolding reading
name_without_end = refl

slash_apart : lexed (codes "/ /") ≡ Ok (token Sign 0 1 ∷ token Sign 2 3 ∷ [])
unfolding reading
slash_apart = refl

no_name : lexed (codes "/a_b/") ≡ Ok (token Sign 0 1 ∷ token Word 1 4 ∷ token Sign 4 5 ∷ [])
unfolding reading
no_name = refl

-- comments to the end of the line
line_comment : lexed (codes "a//b" ++ 10 ∷ codes "c") ≡ Ok (token Word 0 1 ∷ token Word 5 6 ∷ [])
unfolding reading
line_comment = refl

line_comment_at_end : lexed (codes "a//b") ≡ Ok (token Word 0 1 ∷ [])
unfolding reading
line_comment_at_end = refl

line_comment_alone : lexed (codes "///*") ≡ Ok []
unfolding reading
line_comment_alone = refl

-- comments up to the first star and slash
comment : lexed (codes "a/*b*/c") ≡ Ok (token Word 0 1 ∷ token Word 6 7 ∷ [])
unfolding reading
comment = refl

comment_with_start : lexed (codes "/*/*/a") ≡ Ok (token Word 5 6 ∷ [])
unfolding reading
comment_with_start = refl

short_comment : lexed (codes "/**/a") ≡ Ok (token Word 4 5 ∷ [])
unfolding reading
short_comment = refl

comment_of_lines : lexed (codes "/*" ++ 10 ∷ codes "//*/a") ≡ Ok (token Word 7 8 ∷ [])
unfolding reading
comment_of_lines = refl

no_nesting : lexed (codes "/*/**/*/") ≡ Err (BadChar 6)
unfolding reading
no_nesting = refl

half_comment : lexed (codes "/*/") ≡ Err (Unclosed 0)
unfolding reading
half_comment = refl

open_comment : lexed (codes "a/*b*") ≡ Err (Unclosed 1)
unfolding reading
open_comment = refl

-- numbers: decimal, octal and hexadecimal, with each suffix
number : lexed (codes "<10>") ≡ Ok (token Sign 0 1 ∷ token Number 1 3 ∷ token Sign 3 4 ∷ [])
unfolding reading
number = refl

forms : lexed (codes "<017 0x1FUL 0U>") ≡ Ok (token Sign 0 1 ∷ token Number 1 4 ∷ token Number 5 11 ∷ token Number 12 14 ∷ token Sign 14 15 ∷ [])
unfolding reading
forms = refl

suffixes : lexed (codes "<1L 2LL 9ULL>") ≡ Ok (token Sign 0 1 ∷ token Number 1 3 ∷ token Number 4 7 ∷ token Number 8 12 ∷ token Sign 12 13 ∷ [])
unfolding reading
suffixes = refl

widest : lexed (codes "<4294967295>") ≡ Ok (token Sign 0 1 ∷ token Number 1 11 ∷ token Sign 11 12 ∷ [])
unfolding reading
widest = refl

-- words that have to be numbers and are none
octal_eight : lexed (codes "<08>") ≡ Err (BadChar 1)
unfolding reading
octal_eight = refl

decimal_letter : lexed (codes "< 1a>") ≡ Err (BadChar 2)
unfolding reading
decimal_letter = refl

no_digits : lexed (codes "<0x>") ≡ Err (BadChar 1)
unfolding reading
no_digits = refl

large_x : lexed (codes "<0X1>") ≡ Err (BadChar 1)
unfolding reading
large_x = refl

small_suffix : lexed (codes "<1u>") ≡ Err (BadChar 1)
unfolding reading
small_suffix = refl

wrong_suffix : lexed (codes "<1LU>") ≡ Err (BadChar 1)
unfolding reading
wrong_suffix = refl

with_a_point : lexed (codes "<1.>") ≡ Err (BadChar 1)
unfolding reading
with_a_point = refl

too_wide : lexed (codes "<4294967296>") ≡ Err (NumberTooWide 1)
unfolding reading
too_wide = refl

hexadecimal_too_wide : lexed (codes "<0xffffffff 0x100000000>") ≡ Err (NumberTooWide 12)
unfolding reading
hexadecimal_too_wide = refl

wide_and_malformed : lexed (codes "<99999999999x>") ≡ Err (BadChar 1)
unfolding reading
wide_and_malformed = refl

-- numbers are words where no cells are
digits_in_a_name : lexed (codes "08@1x") ≡ Ok (token Word 0 5 ∷ [])
unfolding reading
digits_in_a_name = refl

behind_cells : lexed (codes "<1>08") ≡ Ok (token Sign 0 1 ∷ token Number 1 2 ∷ token Sign 2 3 ∷ token Word 3 5 ∷ [])
unfolding reading
behind_cells = refl

closed_once : lexed (codes "<<>08") ≡ Ok (token Sign 0 1 ∷ token Sign 1 2 ∷ token Sign 2 3 ∷ token Word 3 5 ∷ [])
unfolding reading
closed_once = refl

opened_again : lexed (codes "><1") ≡ Ok (token Sign 0 1 ∷ token Sign 1 2 ∷ token Number 2 3 ∷ [])
unfolding reading
opened_again = refl

bytes : lexed (codes "[08]") ≡ Ok (token Sign 0 1 ∷ token Word 1 3 ∷ token Sign 3 4 ∷ [])
unfolding reading
bytes = refl

word_among_cells : lexed (codes "<a1 -1>") ≡ Ok (token Sign 0 1 ∷ token Word 1 3 ∷ token Word 4 6 ∷ token Sign 6 7 ∷ [])
unfolding reading
word_among_cells = refl

sign_between : lexed (codes "<;1") ≡ Ok (token Sign 0 1 ∷ token Sign 1 2 ∷ token Number 2 3 ∷ [])
unfolding reading
sign_between = refl

-- strings
empty_string : lexed (34 ∷ 34 ∷ []) ≡ Ok (token Text 0 2 ∷ [])
unfolding reading
empty_string = refl

escaped_quote : lexed (34 ∷ codes "a" ++ 92 ∷ 34 ∷ codes "b" ++ 34 ∷ []) ≡ Ok (token Text 0 6 ∷ [])
unfolding reading
escaped_quote = refl

escaped_backslash : lexed (34 ∷ 92 ∷ 92 ∷ 34 ∷ codes "a") ≡ Ok (token Text 0 4 ∷ token Word 4 5 ∷ [])
unfolding reading
escaped_backslash = refl

escapes : lexed (34 ∷ 92 ∷ codes "n" ++ 92 ∷ codes "t" ++ 34 ∷ []) ≡ Ok (token Text 0 6 ∷ [])
unfolding reading
escapes = refl

edges : lexed (34 ∷ codes " ~" ++ 34 ∷ []) ≡ Ok (token Text 0 4 ∷ [])
unfolding reading
edges = refl

comment_in_string : lexed (34 ∷ codes "/*//" ++ 34 ∷ []) ≡ Ok (token Text 0 6 ∷ [])
unfolding reading
comment_in_string = refl

-- strings with a fault
bad_escape : lexed (codes "x" ++ 34 ∷ codes "a" ++ 92 ∷ codes "x" ++ 34 ∷ []) ≡ Err (BadChar 3)
unfolding reading
bad_escape = refl

tab_in_string : lexed (34 ∷ codes "a" ++ 9 ∷ 34 ∷ []) ≡ Err (BadChar 2)
unfolding reading
tab_in_string = refl

newline_in_string : lexed (34 ∷ codes "ab" ++ 10 ∷ []) ≡ Err (BadChar 3)
unfolding reading
newline_in_string = refl

past_printable : lexed (34 ∷ 127 ∷ 34 ∷ []) ≡ Err (BadChar 1)
unfolding reading
past_printable = refl

last_is_bad : lexed (34 ∷ 9 ∷ []) ≡ Err (BadChar 1)
unfolding reading
last_is_bad = refl

open_string : lexed (codes "p=" ++ 34 ∷ codes "a") ≡ Err (Unclosed 2)
unfolding reading
open_string = refl

quote_alone : lexed (34 ∷ []) ≡ Err (Unclosed 0)
unfolding reading
quote_alone = refl

open_escape : lexed (34 ∷ codes "a" ++ 92 ∷ []) ≡ Err (Unclosed 0)
unfolding reading
open_escape = refl

quote_is_escaped : lexed (34 ∷ codes "a" ++ 92 ∷ 34 ∷ []) ≡ Err (Unclosed 0)
unfolding reading
quote_is_escaped = refl

-- a comma alone
between_strings : lexed (34 ∷ codes "a" ++ 34 ∷ codes "," ++ 34 ∷ codes "b" ++ 34 ∷ []) ≡ Ok (token Text 0 3 ∷ token Sign 3 4 ∷ token Text 4 7 ∷ [])
unfolding reading
between_strings = refl

between_cells : lexed (codes "<1>,<2>") ≡ Ok (token Sign 0 1 ∷ token Number 1 2 ∷ token Sign 2 3 ∷ token Sign 3 4 ∷ token Sign 4 5 ∷ token Number 5 6 ∷ token Sign 6 7 ∷ [])
unfolding reading
between_cells = refl

between_references : lexed (codes "&a,&b") ≡ Ok (token Ref 0 2 ∷ token Sign 2 3 ∷ token Ref 3 5 ∷ [])
unfolding reading
between_references = refl

behind_bytes : lexed (codes "[00],a") ≡ Ok (token Sign 0 1 ∷ token Word 1 3 ∷ token Sign 3 4 ∷ token Sign 4 5 ∷ token Word 5 6 ∷ [])
unfolding reading
behind_bytes = refl

behind_a_gap : lexed (34 ∷ codes "a" ++ 34 ∷ codes " /**/,b") ≡ Ok (token Text 0 3 ∷ token Sign 8 9 ∷ token Word 9 10 ∷ [])
unfolding reading
behind_a_gap = refl

-- a comma in a word, or at the head of one
in_a_word : lexed (codes "a,b") ≡ Ok (token Word 0 3 ∷ [])
unfolding reading
in_a_word = refl

behind_a_word : lexed (codes "a ,b") ≡ Ok (token Word 0 1 ∷ token Word 2 4 ∷ [])
unfolding reading
behind_a_word = refl

first : lexed (codes ",a") ≡ Ok (token Word 0 2 ∷ [])
unfolding reading
first = refl

behind_a_number : lexed (codes "<1 ,>") ≡ Ok (token Sign 0 1 ∷ token Number 1 2 ∷ token Word 3 4 ∷ token Sign 4 5 ∷ [])
unfolding reading
behind_a_number = refl

behind_a_directive : lexed (codes "/dts-v1/,") ≡ Ok (token Directive 0 8 ∷ token Word 8 9 ∷ [])
unfolding reading
behind_a_directive = refl

behind_a_sign : lexed (codes ";,") ≡ Ok (token Sign 0 1 ∷ token Word 1 2 ∷ [])
unfolding reading
behind_a_sign = refl

behind_a_comma : lexed (34 ∷ codes "a" ++ 34 ∷ codes ",,") ≡ Ok (token Text 0 3 ∷ token Sign 3 4 ∷ token Word 4 5 ∷ [])
unfolding reading
behind_a_comma = refl

-- the preprocessor's words at the head of a line end the reading
at_the_head : lexed (codes "#include *") ≡ Ok (token Word 0 8 ∷ [])
unfolding reading
at_the_head = refl

behind_blanks : lexed (codes " " ++ 9 ∷ 13 ∷ codes "#if *") ≡ Ok (token Word 3 6 ∷ [])
unfolding reading
behind_blanks = refl

in_the_next_line : lexed (codes "a" ++ 10 ∷ codes "#endif *") ≡ Ok (token Word 0 1 ∷ token Word 2 8 ∷ [])
unfolding reading
in_the_next_line = refl

-- elsewhere they are words
in_mid_line : lexed (codes "a #if b") ≡ Ok (token Word 0 1 ∷ token Word 2 5 ∷ token Word 6 7 ∷ [])
unfolding reading
in_mid_line = refl

behind_a_comment : lexed (codes "/**/#if b") ≡ Ok (token Word 4 7 ∷ token Word 8 9 ∷ [])
unfolding reading
behind_a_comment = refl

another_word : lexed (codes "#size-cells b") ≡ Ok (token Word 0 11 ∷ token Word 12 13 ∷ [])
unfolding reading
another_word = refl

-- bytes that begin no token
star : lexed (codes "a *") ≡ Err (BadChar 2)
unfolding reading
star = refl

closing_parenthesis : lexed (codes ")") ≡ Err (BadChar 0)
unfolding reading
closing_parenthesis = refl

lone_ampersand : lexed (codes "&") ≡ Err (BadChar 0)
unfolding reading
lone_ampersand = refl

reference_by_a_digit : lexed (codes "a&1") ≡ Err (BadChar 1)
unfolding reading
reference_by_a_digit = refl

second_fault_is_not_told : lexed (codes "&1*") ≡ Err (BadChar 0)
unfolding reading
second_fault_is_not_told = refl
