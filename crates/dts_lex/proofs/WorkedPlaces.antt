-- Where runs, comments, strings and lines end, and what words spell, worked out by hand.
use Rattle.std.specs.Prelude.{◌≡◌, [], ◌∷◌, ◌++◌, true, false, Some, None, Ok, Err, codes}
use Rattle.std.proofs.Common.{refl}
use Rattle.dts_lex.specs.declared.class.Class.TheVariants.{Word, Label}
use Rattle.dts_lex.specs.declared.fault.LexFault.TheVariants.{BadChar, Unclosed}
use Rattle.dts_lex.specs.declared.number.NumberFault.TheVariants.{Malformed, TooWide}
use Rattle.dts_lex.specs.Bytes.{is_blank, is_plain, is_escaped}
use Rattle.dts_lex.specs.Class.{has}
use Rattle.dts_lex.specs.Scan.{run_end, comment_end, string_end, begins_line}
use Rattle.dts_lex.specs.Number.{is_suffix, digits_and_suffix, number_of}
use Rattle.dts_lex.specs.Piece.{is_version, is_preprocessor}

-- where a run ends: in the text, at once, and at its end
run_in_text : run_end Word (codes "ab cd") 0 ≡ 2
unfolding run_end has
run_in_text = refl

run_at_once : run_end Word (codes "ab cd") 2 ≡ 2
unfolding run_end has
run_at_once = refl

run_at_end : run_end Word (codes "ab cd") 3 ≡ 5
unfolding run_end has
run_at_end = refl

run_past_text : run_end Word (codes "ab cd") 5 ≡ 5
unfolding run_end has
run_past_text = refl

run_of_labels : run_end Label (codes "&a_9-b") 1 ≡ 4
unfolding run_end has
run_of_labels = refl

-- where a comment ends whose inside begins at 2
comment_closed : comment_end 2 (codes "a*b*/*/") ≡ Some 7
comment_closed = refl

comment_at_once : comment_end 2 (codes "*/") ≡ Some 4
comment_at_once = refl

comment_half : comment_end 2 (codes "/*") ≡ None
comment_half = refl

comment_one_byte : comment_end 2 (codes "*") ≡ None
comment_one_byte = refl

comment_no_bytes : comment_end 2 [] ≡ None
comment_no_bytes = refl

-- where a string ends whose quote stands at 4
string_closed : string_end 4 5 (codes "ab" ++ 34 ∷ codes "c" ++ 34 ∷ []) ≡ Ok 8
unfolding is_plain is_escaped
string_closed = refl

string_at_once : string_end 4 5 (34 ∷ []) ≡ Ok 6
unfolding is_plain is_escaped
string_at_once = refl

string_escape : string_end 4 5 (92 ∷ 34 ∷ 34 ∷ []) ≡ Ok 8
unfolding is_plain is_escaped
string_escape = refl

string_open : string_end 4 5 (codes "ab") ≡ Err (Unclosed 4)
unfolding is_plain is_escaped
string_open = refl

string_no_bytes : string_end 4 5 [] ≡ Err (Unclosed 4)
unfolding is_plain is_escaped
string_no_bytes = refl

string_open_escape : string_end 4 5 (codes "a" ++ 92 ∷ []) ≡ Err (Unclosed 4)
unfolding is_plain is_escaped
string_open_escape = refl

string_bad_escape : string_end 4 5 (codes "a" ++ 92 ∷ codes "r" ++ 34 ∷ []) ≡ Err (BadChar 6)
unfolding is_plain is_escaped
string_bad_escape = refl

string_bad_byte : string_end 4 5 (codes "a" ++ 10 ∷ 34 ∷ []) ≡ Err (BadChar 6)
unfolding is_plain is_escaped
string_bad_byte = refl

string_last_is_bad : string_end 4 5 (codes "a" ++ 10 ∷ []) ≡ Err (BadChar 6)
unfolding is_plain is_escaped
string_last_is_bad = refl

-- the head of a line, by what stands before
head_of_text : begins_line [] ≡ true
unfolding begins_line is_blank
head_of_text = refl

head_of_blanks : begins_line (codes " " ++ 9 ∷ 13 ∷ []) ≡ true
unfolding begins_line is_blank
head_of_blanks = refl

head_of_next_line : begins_line (codes "a" ++ 10 ∷ codes " ") ≡ true
unfolding begins_line is_blank
head_of_next_line = refl

head_of_word : begins_line (codes "a") ≡ false
unfolding begins_line is_blank
head_of_word = refl

head_of_word_and_blank : begins_line (codes "a ") ≡ false
unfolding begins_line is_blank
head_of_word_and_blank = refl

head_of_next_word : begins_line (10 ∷ codes "b ") ≡ false
unfolding begins_line is_blank
head_of_next_word = refl

-- suffixes
suffix_none : is_suffix [] ≡ true
unfolding is_suffix
suffix_none = refl

suffix_u : is_suffix (codes "U") ≡ true
unfolding is_suffix
suffix_u = refl

suffix_l : is_suffix (codes "L") ≡ true
unfolding is_suffix
suffix_l = refl

suffix_ul : is_suffix (codes "UL") ≡ true
unfolding is_suffix
suffix_ul = refl

suffix_ll : is_suffix (codes "LL") ≡ true
unfolding is_suffix
suffix_ll = refl

suffix_ull : is_suffix (codes "ULL") ≡ true
unfolding is_suffix
suffix_ull = refl

suffix_lu : is_suffix (codes "LU") ≡ false
unfolding is_suffix
suffix_lu = refl

suffix_small : is_suffix (codes "u") ≡ false
unfolding is_suffix
suffix_small = refl

suffix_uu : is_suffix (codes "UU") ≡ false
unfolding is_suffix
suffix_uu = refl

-- numbers of words
number_zero : number_of (codes "0") ≡ Ok 0
unfolding number_of digits_and_suffix is_suffix
number_zero = refl

number_decimal : number_of (codes "109") ≡ Ok 109
unfolding number_of digits_and_suffix is_suffix
number_decimal = refl

number_octal : number_of (codes "017") ≡ Ok 15
unfolding number_of digits_and_suffix is_suffix
number_octal = refl

number_hexadecimal : number_of (codes "0x1FUL") ≡ Ok 31
unfolding number_of digits_and_suffix is_suffix
number_hexadecimal = refl

number_either_case : number_of (codes "0xaB") ≡ Ok 171
unfolding number_of digits_and_suffix is_suffix
number_either_case = refl

number_widest : number_of (codes "4294967295") ≡ Ok 4294967295
unfolding number_of digits_and_suffix is_suffix
number_widest = refl

number_octal_widest : number_of (codes "037777777777L") ≡ Ok 4294967295
unfolding number_of digits_and_suffix is_suffix
number_octal_widest = refl

number_wider : number_of (codes "4294967296") ≡ Err TooWide
unfolding number_of digits_and_suffix is_suffix
number_wider = refl

number_hexadecimal_wider : number_of (codes "0x100000000") ≡ Err TooWide
unfolding number_of digits_and_suffix is_suffix
number_hexadecimal_wider = refl

number_octal_wider : number_of (codes "040000000000") ≡ Err TooWide
unfolding number_of digits_and_suffix is_suffix
number_octal_wider = refl

number_eight : number_of (codes "08") ≡ Err Malformed
unfolding number_of digits_and_suffix is_suffix
number_eight = refl

number_no_digits : number_of (codes "0x") ≡ Err Malformed
unfolding number_of digits_and_suffix is_suffix
number_no_digits = refl

number_capital : number_of (codes "0X1") ≡ Err Malformed
unfolding number_of digits_and_suffix is_suffix
number_capital = refl

number_letter : number_of (codes "1a") ≡ Err Malformed
unfolding number_of digits_and_suffix is_suffix
number_letter = refl

number_nothing : number_of [] ≡ Err Malformed
unfolding number_of digits_and_suffix is_suffix
number_nothing = refl

number_suffix_alone : number_of (codes "U") ≡ Err Malformed
unfolding number_of digits_and_suffix is_suffix
number_suffix_alone = refl

number_wide_letter : number_of (codes "99999999999x") ≡ Err Malformed
unfolding number_of digits_and_suffix is_suffix
number_wide_letter = refl

digits_in_base : digits_and_suffix 8 (codes "17U") ≡ Ok 15
unfolding number_of digits_and_suffix is_suffix
digits_in_base = refl

digits_not_in_base : digits_and_suffix 8 (codes "19U") ≡ Err Malformed
unfolding number_of digits_and_suffix is_suffix
digits_not_in_base = refl

-- the version's directive and another
version : is_version (codes "/dts-v1/") ≡ true
unfolding is_version
version = refl

other_version : is_version (codes "/dts-v2/") ≡ false
unfolding is_version
other_version = refl

-- the preprocessor's words, and two others
preprocessor_include : is_preprocessor (codes "#include") ≡ true
unfolding is_preprocessor
preprocessor_include = refl

preprocessor_define : is_preprocessor (codes "#define") ≡ true
unfolding is_preprocessor
preprocessor_define = refl

preprocessor_undef : is_preprocessor (codes "#undef") ≡ true
unfolding is_preprocessor
preprocessor_undef = refl

preprocessor_if : is_preprocessor (codes "#if") ≡ true
unfolding is_preprocessor
preprocessor_if = refl

preprocessor_ifdef : is_preprocessor (codes "#ifdef") ≡ true
unfolding is_preprocessor
preprocessor_ifdef = refl

preprocessor_ifndef : is_preprocessor (codes "#ifndef") ≡ true
unfolding is_preprocessor
preprocessor_ifndef = refl

preprocessor_else : is_preprocessor (codes "#else") ≡ true
unfolding is_preprocessor
preprocessor_else = refl

preprocessor_endif : is_preprocessor (codes "#endif") ≡ true
unfolding is_preprocessor
preprocessor_endif = refl

preprocessor_line : is_preprocessor (codes "#line") ≡ true
unfolding is_preprocessor
preprocessor_line = refl

preprocessor_error : is_preprocessor (codes "#error") ≡ true
unfolding is_preprocessor
preprocessor_error = refl

preprocessor_pragma : is_preprocessor (codes "#pragma") ≡ true
unfolding is_preprocessor
preprocessor_pragma = refl

preprocessor_elif : is_preprocessor (codes "#elif") ≡ false
unfolding is_preprocessor
preprocessor_elif = refl

preprocessor_no_sign : is_preprocessor (codes "include") ≡ false
unfolding is_preprocessor
preprocessor_no_sign = refl
