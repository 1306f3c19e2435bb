-- The number that a word spells.
use Rattle.std.specs.Prelude.{ℕ, List, [], ◌∷◌, Bool, ◌||◌, ◌==◌, not, nat_eq, nat_le, Result, Ok, Err, codes, take, drop, if◌then◌else◌}
use Rattle.std.specs.List.{prefix_len, list_any, starts_with}
use Rattle.std.specs.Char.{is_digit}
use Rattle.std.specs.Str.{bytes_eq}
use Rattle.std.specs.Str.Parse.{digits_value}
use Rattle.dts_lex.specs.declared.number.NumberFault.{NumberFault}
use Rattle.dts_lex.specs.declared.number.NumberFault.TheVariants.{Malformed, TooWide}

-- what may stand behind the digits and says nothing
unfoldable pub is_suffix : List ℕ → Bool
is_suffix bytes = list_any (bytes_eq bytes) (codes "" ∷ codes "U" ∷ codes "L" ∷ codes "UL" ∷ codes "LL" ∷ codes "ULL" ∷ [])

-- one digit or more, and a suffix
unfoldable pub digits_and_suffix : ℕ → List ℕ → Result ℕ NumberFault
digits_and_suffix base bytes =
    let count = prefix_len (λ c. is_digit c base) bytes in
    let value = digits_value base (take count bytes) in
    if count == 0 || not (is_suffix (drop count bytes)) then Err Malformed
    else (if nat_le value 4294967295 then Ok value
    else Err TooWide)

-- hexadecimal behind 0x, octal from another 0 on, else decimal
unfoldable pub number_of : List ℕ → Result ℕ NumberFault
number_of word =
    if starts_with nat_eq word (codes "0x") then digits_and_suffix 16 (drop 2 word)
    else (if starts_with nat_eq word (codes "0") then digits_and_suffix 8 word
    else digits_and_suffix 10 word)
