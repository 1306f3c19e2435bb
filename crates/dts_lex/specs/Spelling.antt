-- The numbers that words spell, form by form.
use Rattle.std.specs.Prelude.{◌≡◌, ◌≢◌, ℕ, ◌<◌, ◌≤◌, List, ◌++◌, true, Result, Ok, Err, length, slice_index, codes}
use Rattle.std.specs.List.{AllByRecursion}
use Rattle.std.specs.Char.{is_digit}
use Rattle.std.specs.Str.Parse.{digits_value}
use Rattle.dts_lex.specs.declared.number.NumberFault.{NumberFault}
use Rattle.dts_lex.specs.declared.number.NumberFault.TheVariants.{Malformed, TooWide}
use Rattle.dts_lex.specs.Number.{is_suffix}

-- one digit of a base or more
abbrev pub AreDigits : ℕ → List ℕ → Type 0
AreDigits base digits = (0 < length digits) × AllByRecursion (λ c. is_digit c base ≡ true) digits

-- a word spells a number: hexadecimal digits behind 0x, octal ones of which the first is a 0 (48), or
-- decimal ones of which it isn't; then a suffix, which says nothing
pub data Spells : List ℕ → ℕ → Type 0 where
  hexadecimal : (digits suffix : List ℕ) → AreDigits 16 digits → is_suffix suffix ≡ true → Spells (codes "0x" ++ digits ++ suffix) (digits_value 16 digits)
  octal : (digits suffix : List ℕ) → AreDigits 8 digits → slice_index digits 0 ≡ 48 → is_suffix suffix ≡ true → Spells (digits ++ suffix) (digits_value 8 digits)
  decimal : (digits suffix : List ℕ) → AreDigits 10 digits → slice_index digits 0 ≢ 48 → is_suffix suffix ≡ true → Spells (digits ++ suffix) (digits_value 10 digits)

-- what is read of a word: the number that it spells, if that has 32 bits; else why there is none
abbrev pub IsReadOf : List ℕ → Result ℕ NumberFault → Type 0
IsReadOf word (Ok n) = Spells word n × (n ≤ 4294967295)
IsReadOf word (Err Malformed) = (n : ℕ) → Spells word n → ⊥
IsReadOf word (Err TooWide) = (n : ℕ) × Spells word n × (4294967295 < n)
