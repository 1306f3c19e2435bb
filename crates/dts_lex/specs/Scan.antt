-- How far runs of bytes, comments and strings go. A place is the index of a byte in the text; where a
-- list stands beside a place, it is what the text has from there on.
use Rattle.std.specs.Prelude.{ℕ, ◌+◌, List, [], ◌∷◌, Bool, ◌||◌, ◌&&◌, ◌==◌, Option, Some, None, Result, Ok, Err, drop, if◌then◌else◌}
use Rattle.std.specs.List.{prefix_len, after_last, list_all}
use Rattle.dts_lex.specs.Class.{has}
use Rattle.dts_lex.specs.declared.class.Class.{Class}
use Rattle.dts_lex.specs.Bytes.{is_blank, is_plain, is_escaped}
use Rattle.dts_lex.specs.declared.fault.LexFault.{LexFault}
use Rattle.dts_lex.specs.declared.fault.LexFault.TheVariants.{BadChar, Unclosed}

-- where a run of a class ends that may begin at a place
unfoldable pub run_end : Class → List ℕ → ℕ → ℕ
run_end class text at = at + prefix_len (has class) (drop at text)

-- behind the first `*/`, which is 42 and 47
abbrev pub comment_end : ℕ → List ℕ → Option ℕ
comment_end at [] = None
comment_end at (b ∷ []) = None
comment_end at (b ∷ c ∷ rest) = if b == 42 && c == 47 then Some (at + 2) else comment_end (at + 1) (c ∷ rest)

-- behind the closing quote of the string whose opening one stands at `quote`
abbrev pub string_end : ℕ → ℕ → List ℕ → Result ℕ LexFault
string_end quote at [] = Err (Unclosed quote)
string_end quote at (b ∷ []) = if b == 34 then Ok (at + 1) else (if b == 92 || is_plain b then Err (Unclosed quote) else Err (BadChar at))
string_end quote at (b ∷ c ∷ rest) =
    if b == 34 then Ok (at + 1)
    else (if b == 92 then (if is_escaped c then string_end quote (at + 2) rest else Err (BadChar at))
    else (if is_plain b then string_end quote (at + 1) (c ∷ rest)
    else Err (BadChar at)))

-- the line that ends with these bytes has blanks alone
unfoldable pub begins_line : List ℕ → Bool
begins_line front = list_all is_blank (after_last (λ b. b == 10) front)
