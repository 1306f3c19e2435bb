-- What begins at a place, and what stands behind tokens, worked out by hand.
use Rattle.std.specs.Prelude.{◌≡◌, [], ◌∷◌, ◌++◌, true, false, Some, None, Ok, Err, codes}
use Rattle.std.proofs.Common.{refl}
use Rattle.dts_lex.specs.declared.fault.LexFault.TheVariants.{BadChar, Unclosed, NumberTooWide}
use Rattle.dts_lex.specs.declared.number.NumberFault.TheVariants.{Malformed, TooWide}
use Rattle.dts_lex.specs.declared.piece.Piece.TheVariants.{Gap, Token, Last}
use Rattle.dts_lex.specs.declared.token.Kind.TheVariants as kind
use Rattle.dts_lex.specs.Bytes.{is_blank}
use Rattle.dts_lex.specs.Scan.{begins_line}
use Rattle.dts_lex.specs.Piece.{is_version, is_preprocessor, closed, quoted, counted, piece_at}
use Rattle.dts_lex.specs.Lex.{is_the_sign, ends_part, of_token, last_passes, comma_alone, in_cells, behind, lexed_from}
use Rattle.dts_lex.specs.Shape.{is_last}
use Rattle.dts_lex.proofs.WorkedTexts.{token, reading}

-- pieces, by what begins there
piece_blank : piece_at (codes "a b") false false 1 ≡ Ok (Gap 2)
unfolding reading
piece_blank = refl

piece_line_comment : piece_at (codes "a//b" ++ 10 ∷ codes "c") false false 1 ≡ Ok (Gap 4)
unfolding reading
piece_line_comment = refl

piece_comment : piece_at (codes "/*a*/b") false false 0 ≡ Ok (Gap 5)
unfolding reading
piece_comment = refl

piece_open_comment : piece_at (codes " /*a") false false 1 ≡ Err (Unclosed 1)
unfolding reading
piece_open_comment = refl

piece_version : piece_at (codes "/dts-v1/") false false 0 ≡ Ok (Token kind.Directive 8)
unfolding reading
piece_version = refl

piece_directive : piece_at (codes " /bits/") false false 1 ≡ Ok (Last kind.Directive 7)
unfolding reading
piece_directive = refl

piece_slash : piece_at (codes "/a;") false false 0 ≡ Ok (Token kind.Sign 1)
unfolding reading
piece_slash = refl

piece_string : piece_at (codes "x" ++ 34 ∷ codes "a" ++ 34 ∷ []) false false 1 ≡ Ok (Token kind.Text 4)
unfolding reading
piece_string = refl

piece_open_string : piece_at (codes "x" ++ 34 ∷ codes "a") false false 1 ≡ Err (Unclosed 1)
unfolding reading
piece_open_string = refl

piece_reference : piece_at (codes "a &b;") false false 2 ≡ Ok (Token kind.Ref 4)
unfolding reading
piece_reference = refl

piece_path : piece_at (codes "a &{") false false 2 ≡ Ok (Last kind.Sign 4)
unfolding reading
piece_path = refl

piece_lone_ampersand : piece_at (codes "a & b") false false 2 ≡ Err (BadChar 2)
unfolding reading
piece_lone_ampersand = refl

piece_parenthesis : piece_at (codes " (") false false 1 ≡ Ok (Last kind.Sign 2)
unfolding reading
piece_parenthesis = refl

piece_sign : piece_at (codes " ;") false false 1 ≡ Ok (Token kind.Sign 2)
unfolding reading
piece_sign = refl

piece_comma_alone : piece_at (codes " ,a") true false 1 ≡ Ok (Token kind.Sign 2)
unfolding reading
piece_comma_alone = refl

piece_comma_in_word : piece_at (codes " ,a") false false 1 ≡ Ok (Token kind.Word 3)
unfolding reading
piece_comma_in_word = refl

piece_word : piece_at (codes " 12;") false false 1 ≡ Ok (Token kind.Word 3)
unfolding reading
piece_word = refl

piece_number : piece_at (codes " 12;") false true 1 ≡ Ok (Token kind.Number 3)
unfolding reading
piece_number = refl

piece_word_in_cells : piece_at (codes " a2;") false true 1 ≡ Ok (Token kind.Word 3)
unfolding reading
piece_word_in_cells = refl

piece_malformed : piece_at (codes " 1a;") false true 1 ≡ Err (BadChar 1)
unfolding reading
piece_malformed = refl

piece_too_wide : piece_at (codes " 4294967296;") false true 1 ≡ Err (NumberTooWide 1)
unfolding reading
piece_too_wide = refl

piece_preprocessor : piece_at (codes " #if") false false 1 ≡ Ok (Last kind.Word 4)
unfolding reading
piece_preprocessor = refl

piece_preprocessor_in_line : piece_at (codes "a #if") false false 2 ≡ Ok (Token kind.Word 5)
unfolding reading
piece_preprocessor_in_line = refl

piece_none : piece_at (codes " *") false false 1 ≡ Err (BadChar 1)
unfolding reading
piece_none = refl

-- parts of a piece
closed_comment : closed 3 (Some 9) ≡ Ok (Gap 9)
closed_comment = refl

comment_without_end : closed 3 None ≡ Err (Unclosed 3)
comment_without_end = refl

quoted_end : quoted (Ok 9) ≡ Ok (Token kind.Text 9)
quoted_end = refl

quoted_fault : quoted (Err (BadChar 9)) ≡ Err (BadChar 9)
quoted_fault = refl

counted_number : counted 3 5 (Ok 77) ≡ Ok (Token kind.Number 5)
counted_number = refl

counted_malformed : counted 3 5 (Err Malformed) ≡ Err (BadChar 3)
counted_malformed = refl

counted_too_wide : counted 3 5 (Err TooWide) ≡ Err (NumberTooWide 3)
counted_too_wide = refl

-- a sign by its byte: no other kind is one
no_sign_word : is_the_sign 60 kind.Word 60 ≡ false
no_sign_word = refl

no_sign_number : is_the_sign 60 kind.Number 60 ≡ false
no_sign_number = refl

no_sign_text : is_the_sign 60 kind.Text 60 ≡ false
no_sign_text = refl

no_sign_directive : is_the_sign 60 kind.Directive 60 ≡ false
no_sign_directive = refl

no_sign_ref : is_the_sign 60 kind.Ref 60 ≡ false
no_sign_ref = refl

the_sign : is_the_sign 60 kind.Sign 60 ≡ true
the_sign = refl

another_sign : is_the_sign 60 kind.Sign 62 ≡ false
another_sign = refl

-- tokens that may end a part of a value
text_ends_part : ends_part kind.Text 34 ≡ true
text_ends_part = refl

ref_ends_part : ends_part kind.Ref 38 ≡ true
ref_ends_part = refl

greater_ends_part : ends_part kind.Sign 62 ≡ true
greater_ends_part = refl

bracket_ends_part : ends_part kind.Sign 93 ≡ true
bracket_ends_part = refl

semicolon_ends_none : ends_part kind.Sign 59 ≡ false
semicolon_ends_none = refl

comma_ends_none : ends_part kind.Sign 44 ≡ false
comma_ends_none = refl

word_ends_none : ends_part kind.Word 97 ≡ false
word_ends_none = refl

number_ends_none : ends_part kind.Number 49 ≡ false
number_ends_none = refl

directive_ends_none : ends_part kind.Directive 47 ≡ false
directive_ends_none = refl

-- the same of a token, and of the last of some
of_the_sign : of_token (is_the_sign 60) (codes "a<") (token kind.Sign 1 2) ≡ true
of_the_sign = refl

of_no_sign : of_token (is_the_sign 60) (codes "a<") (token kind.Word 0 1) ≡ false
of_no_sign = refl

last_one : last_passes is_blank (97 ∷ 32 ∷ []) ≡ true
unfolding is_blank
last_one = refl

last_fails : last_passes is_blank (32 ∷ 97 ∷ []) ≡ false
unfolding is_blank
last_fails = refl

last_of_none : last_passes is_blank [] ≡ false
unfolding is_blank
last_of_none = refl

-- behind some tokens: a comma alone, and among cells
comma_behind_cells : comma_alone (codes "<>") (token kind.Sign 0 1 ∷ token kind.Sign 1 2 ∷ []) ≡ true
unfolding comma_alone
comma_behind_cells = refl

comma_behind_word : comma_alone (codes ">a") (token kind.Sign 0 1 ∷ token kind.Word 1 2 ∷ []) ≡ false
unfolding comma_alone
comma_behind_word = refl

comma_behind_none : comma_alone (codes "a") [] ≡ false
unfolding comma_alone
comma_behind_none = refl

in_cells_opened : in_cells (codes "><;a") (token kind.Sign 0 1 ∷ token kind.Sign 1 2 ∷ token kind.Sign 2 3 ∷ []) ≡ true
unfolding in_cells
in_cells_opened = refl

in_cells_closed : in_cells (codes "<>a") (token kind.Sign 0 1 ∷ token kind.Sign 1 2 ∷ []) ≡ false
unfolding in_cells
in_cells_closed = refl

in_cells_none : in_cells (codes "a") [] ≡ false
unfolding in_cells
in_cells_none = refl

-- the reading goes on behind a gap and a token, and ends behind a last one and at a fault
behind_gap : behind (λ before at. Err (BadChar at)) [] 3 (Ok (Gap 5)) ≡ Err (BadChar 5)
behind_gap = refl

behind_token : behind (λ before at. Ok before) (token kind.Word 0 2 ∷ []) 3 (Ok (Token kind.Sign 4)) ≡ Ok (token kind.Word 0 2 ∷ token kind.Sign 3 4 ∷ [])
behind_token = refl

behind_last : behind (λ before at. Err (BadChar at)) [] 3 (Ok (Last kind.Sign 5)) ≡ Ok (token kind.Sign 3 5 ∷ [])
behind_last = refl

behind_fault : behind (λ before at. Ok before) [] 3 (Err (Unclosed 3)) ≡ Err (Unclosed 3)
behind_fault = refl

lexed_from_end : lexed_from 2 (codes "ab") [] 2 ≡ Ok []
unfolding lexed_from
lexed_from_end = refl

lexed_from_middle : lexed_from 2 (codes ";:") [] 1 ≡ Ok (token kind.Sign 1 2 ∷ [])
unfolding reading
lexed_from_middle = refl

-- tokens behind which nothing is looked at
last_preprocessor : is_last (codes " #if a") (token kind.Word 1 4) ≡ true
unfolding is_preprocessor begins_line is_blank is_version
last_preprocessor = refl

word_in_line : is_last (codes "a #if a") (token kind.Word 2 5) ≡ false
unfolding is_preprocessor begins_line is_blank is_version
word_in_line = refl

word_at_head : is_last (codes "ab") (token kind.Word 0 2) ≡ false
unfolding is_preprocessor begins_line is_blank is_version
word_at_head = refl

last_directive : is_last (codes "/bits/") (token kind.Directive 0 6) ≡ true
unfolding is_preprocessor begins_line is_blank is_version
last_directive = refl

version_not_last : is_last (codes "/dts-v1/") (token kind.Directive 0 8) ≡ false
unfolding is_preprocessor begins_line is_blank is_version
version_not_last = refl

last_parenthesis : is_last (codes "(") (token kind.Sign 0 1) ≡ true
unfolding is_preprocessor begins_line is_blank is_version
last_parenthesis = refl

last_path : is_last (codes "&{") (token kind.Sign 0 2) ≡ true
unfolding is_preprocessor begins_line is_blank is_version
last_path = refl

sign_not_last : is_last (codes "{") (token kind.Sign 0 1) ≡ false
unfolding is_preprocessor begins_line is_blank is_version
sign_not_last = refl

number_not_last : is_last (codes "1") (token kind.Number 0 1) ≡ false
unfolding is_preprocessor begins_line is_blank is_version
number_not_last = refl

text_not_last : is_last (34 ∷ 34 ∷ []) (token kind.Text 0 2) ≡ false
unfolding is_preprocessor begins_line is_blank is_version
text_not_last = refl

ref_not_last : is_last (codes "&a") (token kind.Ref 0 2) ≡ false
unfolding is_preprocessor begins_line is_blank is_version
ref_not_last = refl
