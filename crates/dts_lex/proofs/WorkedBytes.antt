-- What the definitions say of single bytes, worked out by hand.
use Rattle.std.specs.Prelude.{◌≡◌, [], true, false, codes}
use Rattle.std.proofs.Common.{refl}
use Rattle.dts_lex.specs.declared.class.Class.TheVariants.{Word, Label, Directive, Line}
use Rattle.dts_lex.specs.Bytes.{is_in, is_blank, is_label_start, is_sign, is_plain, is_escaped}
use Rattle.dts_lex.specs.Class.{has, is_label}

-- a byte among those of a text
among : is_in (codes "ab") 98 ≡ true
among = refl

not_among : is_in (codes "ab") 99 ≡ false
not_among = refl

among_none : is_in [] 98 ≡ false
among_none = refl

-- the four blanks; a vertical tab is none
blank_space : is_blank 32 ≡ true
unfolding is_blank
blank_space = refl

blank_tab : is_blank 9 ≡ true
unfolding is_blank
blank_tab = refl

blank_newline : is_blank 10 ≡ true
unfolding is_blank
blank_newline = refl

blank_carriage_return : is_blank 13 ≡ true
unfolding is_blank
blank_carriage_return = refl

blank_vertical_tab : is_blank 11 ≡ false
unfolding is_blank
blank_vertical_tab = refl

blank_nothing : is_blank 0 ≡ false
unfolding is_blank
blank_nothing = refl

blank_past_space : is_blank 33 ≡ false
unfolding is_blank
blank_past_space = refl

-- a label begins with a letter or an underscore
starts_first_capital : is_label_start 65 ≡ true
unfolding is_label_start
starts_first_capital = refl

starts_last_letter : is_label_start 122 ≡ true
unfolding is_label_start
starts_last_letter = refl

starts_underscore : is_label_start 95 ≡ true
unfolding is_label_start
starts_underscore = refl

starts_digit : is_label_start 48 ≡ false
unfolding is_label_start
starts_digit = refl

starts_dash : is_label_start 45 ≡ false
unfolding is_label_start
starts_dash = refl

starts_past_letters : is_label_start 123 ≡ false
unfolding is_label_start
starts_past_letters = refl

-- the signs, and three bytes that aren't always one
sign_brace : is_sign 123 ≡ true
unfolding is_sign
sign_brace = refl

sign_closing_brace : is_sign 125 ≡ true
unfolding is_sign
sign_closing_brace = refl

sign_semicolon : is_sign 59 ≡ true
unfolding is_sign
sign_semicolon = refl

sign_equals : is_sign 61 ≡ true
unfolding is_sign
sign_equals = refl

sign_colon : is_sign 58 ≡ true
unfolding is_sign
sign_colon = refl

sign_less : is_sign 60 ≡ true
unfolding is_sign
sign_less = refl

sign_greater : is_sign 62 ≡ true
unfolding is_sign
sign_greater = refl

sign_bracket : is_sign 91 ≡ true
unfolding is_sign
sign_bracket = refl

sign_closing_bracket : is_sign 93 ≡ true
unfolding is_sign
sign_closing_bracket = refl

sign_comma : is_sign 44 ≡ false
unfolding is_sign
sign_comma = refl

sign_slash : is_sign 47 ≡ false
unfolding is_sign
sign_slash = refl

sign_parenthesis : is_sign 40 ≡ false
unfolding is_sign
sign_parenthesis = refl

-- what stands for itself in a string: from 32 to 126, but for the quote and the backslash
plain_space : is_plain 32 ≡ true
unfolding is_plain
plain_space = refl

plain_tilde : is_plain 126 ≡ true
unfolding is_plain
plain_tilde = refl

plain_past_quote : is_plain 35 ≡ true
unfolding is_plain
plain_past_quote = refl

plain_control : is_plain 31 ≡ false
unfolding is_plain
plain_control = refl

plain_delete : is_plain 127 ≡ false
unfolding is_plain
plain_delete = refl

plain_quote : is_plain 34 ≡ false
unfolding is_plain
plain_quote = refl

plain_backslash : is_plain 92 ≡ false
unfolding is_plain
plain_backslash = refl

-- what a backslash may stand before
escaped_quote : is_escaped 34 ≡ true
unfolding is_escaped
escaped_quote = refl

escaped_backslash : is_escaped 92 ≡ true
unfolding is_escaped
escaped_backslash = refl

escaped_n : is_escaped 110 ≡ true
unfolding is_escaped
escaped_n = refl

escaped_t : is_escaped 116 ≡ true
unfolding is_escaped
escaped_t = refl

escaped_r : is_escaped 114 ≡ false
unfolding is_escaped
escaped_r = refl

escaped_zero : is_escaped 48 ≡ false
unfolding is_escaped
escaped_zero = refl

-- the bytes of words
in_word_letter : has Word 122 ≡ true
unfolding has
in_word_letter = refl

in_word_digit : has Word 48 ≡ true
unfolding has
in_word_digit = refl

in_word_comma : has Word 44 ≡ true
unfolding has
in_word_comma = refl

in_word_dot : has Word 46 ≡ true
unfolding has
in_word_dot = refl

in_word_underscore : has Word 95 ≡ true
unfolding has
in_word_underscore = refl

in_word_plus : has Word 43 ≡ true
unfolding has
in_word_plus = refl

in_word_dash : has Word 45 ≡ true
unfolding has
in_word_dash = refl

in_word_question : has Word 63 ≡ true
unfolding has
in_word_question = refl

in_word_number : has Word 35 ≡ true
unfolding has
in_word_number = refl

in_word_at : has Word 64 ≡ true
unfolding has
in_word_at = refl

in_word_slash : has Word 47 ≡ false
unfolding has
in_word_slash = refl

in_word_star : has Word 42 ≡ false
unfolding has
in_word_star = refl

in_word_ampersand : has Word 38 ≡ false
unfolding has
in_word_ampersand = refl

in_word_past_text : has Word 0 ≡ false
unfolding has
in_word_past_text = refl

-- of labels, of directives and of lines
in_label_letter : has Label 90 ≡ true
unfolding has
in_label_letter = refl

in_label_digit : has Label 57 ≡ true
unfolding has
in_label_digit = refl

in_label_underscore : has Label 95 ≡ true
unfolding has
in_label_underscore = refl

in_label_dash : has Label 45 ≡ false
unfolding has
in_label_dash = refl

in_directive_letter : has Directive 97 ≡ true
unfolding has
in_directive_letter = refl

in_directive_digit : has Directive 49 ≡ true
unfolding has
in_directive_digit = refl

in_directive_dash : has Directive 45 ≡ true
unfolding has
in_directive_dash = refl

in_directive_underscore : has Directive 95 ≡ false
unfolding has
in_directive_underscore = refl

in_directive_slash : has Directive 47 ≡ false
unfolding has
in_directive_slash = refl

line_byte : has Line 11 ≡ true
unfolding has
line_byte = refl

line_carriage_return : has Line 13 ≡ true
unfolding has
line_carriage_return = refl

line_newline : has Line 10 ≡ false
unfolding has
line_newline = refl

-- labels
label_of_letters : is_label (codes "usb_hub3") ≡ true
unfolding is_label is_label_start has
label_of_letters = refl

label_of_one_underscore : is_label (codes "_") ≡ true
unfolding is_label is_label_start has
label_of_one_underscore = refl

label_of_digit_first : is_label (codes "3v3") ≡ false
unfolding is_label is_label_start has
label_of_digit_first = refl

label_of_dash_inside : is_label (codes "a-b") ≡ false
unfolding is_label is_label_start has
label_of_dash_inside = refl

label_of_no_bytes : is_label [] ≡ false
unfolding is_label is_label_start has
label_of_no_bytes = refl

label_of_dash_alone : is_label (codes "-") ≡ false
unfolding is_label is_label_start has
label_of_dash_alone = refl
