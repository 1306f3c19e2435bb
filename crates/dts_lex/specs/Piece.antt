-- What stands at a place of a text: a blank, a comment, a token or a fault. Bytes are written by their
-- codes, with the character beside them.
use Rattle.std.specs.Prelude.{ℕ, ◌+◌, List, [], ◌∷◌, Bool, ◌||◌, ◌&&◌, ◌==◌, Option, Some, None, Result, Ok, Err, slice_index, slice_range, take, drop, codes, if◌then◌else◌}
use Rattle.std.specs.List.{list_any}
use Rattle.std.specs.Str.{bytes_eq}
use Rattle.std.specs.Char.{is_ascii_digit}
use Rattle.dts_lex.specs.declared.fault.LexFault.{LexFault}
use Rattle.dts_lex.specs.declared.fault.LexFault.TheVariants.{BadChar, Unclosed, NumberTooWide}
use Rattle.dts_lex.specs.declared.number.NumberFault.{NumberFault}
use Rattle.dts_lex.specs.declared.number.NumberFault.TheVariants.{Malformed, TooWide}
use Rattle.dts_lex.specs.declared.token.Kind.TheVariants as kind
use Rattle.dts_lex.specs.declared.class.Class.TheVariants as class
use Rattle.dts_lex.specs.declared.piece.Piece.{Piece}
use Rattle.dts_lex.specs.declared.piece.Piece.TheVariants.{Gap, Token, Last}
use Rattle.dts_lex.specs.Bytes.{is_blank, is_label_start, is_sign}
use Rattle.dts_lex.specs.Number.{number_of}
use Rattle.dts_lex.specs.Scan.{run_end, comment_end, string_end, begins_line}

-- the one directive behind which lexing goes on
unfoldable pub is_version : List ℕ → Bool
is_version directive = bytes_eq directive (codes "/dts-v1/")

-- the words of the C preprocessor
unfoldable pub is_preprocessor : List ℕ → Bool
is_preprocessor word =
    list_any (bytes_eq word)
    (codes "#include" ∷ codes "#define" ∷ codes "#undef" ∷ codes "#if" ∷ codes "#ifdef" ∷ codes "#ifndef" ∷ codes "#else" ∷ codes "#endif" ∷ codes "#line" ∷ codes "#error" ∷ codes "#pragma" ∷ [])

-- a comment up to its end, which it must have
abbrev pub closed : ℕ → Option ℕ → Result Piece LexFault
closed at None = Err (Unclosed at)
closed at (Some end) = Ok (Gap end)

-- behind a slash: // is a comment to the end of the line, /* one up to */; else a directive, which has
-- a second slash, or the sign alone
unfoldable pub slash_at : List ℕ → ℕ → Result Piece LexFault
slash_at text at =
    let next = slice_index text (at + 1) in
    let close = run_end class.Directive text (at + 1) in
    if next == 47 {- / -} then Ok (Gap (run_end class.Line text (at + 1)))
    else (if next == 42 {- * -} then closed at (comment_end (at + 2) (drop (at + 2) text))
    else (if slice_index text close == 47 then (if is_version (slice_range text at (close + 1)) then Ok (Token kind.Directive (close + 1)) else Ok (Last kind.Directive (close + 1)))
    else Ok (Token kind.Sign (at + 1))))

-- a string from its quote to behind its closing one
abbrev pub quoted : Result ℕ LexFault → Result Piece LexFault
quoted (Ok end) = Ok (Token kind.Text end)
quoted (Err fault) = Err fault

-- behind an ampersand: a label, or a brace, which begins a path
unfoldable pub ref_at : List ℕ → ℕ → Result Piece LexFault
ref_at text at =
    let next = slice_index text (at + 1) in
    if next == 123 {- { -} then Ok (Last kind.Sign (at + 2))
    else (if is_label_start next then Ok (Token kind.Ref (run_end class.Label text (at + 1)))
    else Err (BadChar at))

-- a word that has to be a number
abbrev pub counted : ℕ → ℕ → Result ℕ NumberFault → Result Piece LexFault
counted at end (Ok n) = Ok (Token kind.Number end)
counted at end (Err Malformed) = Err (BadChar at)
counted at end (Err TooWide) = Err (NumberTooWide at)

-- a word: a number where it begins with a digit among cells; one of the preprocessor's at the head of
-- its line is the last token. A byte that no word has begins no token.
unfoldable pub word_at : List ℕ → Bool → ℕ → Result Piece LexFault
word_at text in_cells at =
    let end = run_end class.Word text at in
    let word = slice_range text at end in
    if end == at then Err (BadChar at)
    else (if in_cells && is_ascii_digit (slice_index text at) then counted at end (number_of word)
    else (if is_preprocessor word && begins_line (take at text) then Ok (Last kind.Word end)
    else Ok (Token kind.Word end)))

-- what begins here, by its first byte
unfoldable pub piece_at : List ℕ → Bool → Bool → ℕ → Result Piece LexFault
piece_at text comma_alone in_cells at =
    let b = slice_index text at in
    if is_blank b then Ok (Gap (at + 1))
    else (if b == 47 {- / -} then slash_at text at
    else (if b == 34 {- " -} then quoted (string_end at (at + 1) (drop (at + 1) text))
    else (if b == 38 {- & -} then ref_at text at
    else (if b == 40 {- ( -} then Ok (Last kind.Sign (at + 1))
    else (if is_sign b || (b == 44 {- , -} && comma_alone) then Ok (Token kind.Sign (at + 1))
    else word_at text in_cells at)))))
