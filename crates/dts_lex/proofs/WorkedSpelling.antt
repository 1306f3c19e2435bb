-- Words and the numbers that they spell, worked out by hand.
use Rattle.std.specs.Prelude.{◌≡◌, ℕ, ◌<◌, ◌≤◌, List, Ok, Err, length, codes}
use Rattle.std.proofs.Common.{refl, sym, ◌∙◌, arith}
use Rattle.std.proofs.lemmas.Bool.{false≢true}
use Rattle.dts_lex.specs.declared.number.NumberFault.TheVariants.{Malformed, TooWide}
use Rattle.dts_lex.specs.Number.{is_suffix, number_of}
use Rattle.dts_lex.specs.Spelling.{AreDigits, Spells, IsReadOf}
use Rattle.dts_lex.specs.Spelling as spelling
use Rattle.dts_lex.proofs.FailsBy.{FailsBy}
use Rattle.dts_lex.proofs.SpellingLemmas.{malformed, spelled, told_ok}
use Rattle.dts_lex.proofs.WorkedTexts.{reading}

-- digits: of a base, one of another base, and none
octal_digits : AreDigits 8 (codes "17")
octal_digits = (omega arith, (refl, (refl, tt)))

digits_of_ten : ¬ AreDigits 8 (codes "18")
digits_of_ten h = absurd (false≢true h.1.1.0)

no_digits : FailsBy (0 < length (codes "")) (AreDigits 8 (codes ""))
no_digits = record { needs = λ h. h.0; suffices = λ some. (some, tt); fails = λ some. absurd (omega arith) }

-- numbers in each form
spells_hexadecimal : Spells (codes "0x1fUL") 31
unfolding is_suffix
spells_hexadecimal = spelling.hexadecimal (codes "1f") (codes "UL") (omega arith, (refl, (refl, tt))) refl

spells_octal : Spells (codes "017") 15
unfolding is_suffix
spells_octal = spelling.octal (codes "017") (codes "") (omega arith, (refl, (refl, (refl, tt)))) refl refl

spells_zero : Spells (codes "0U") 0
unfolding is_suffix
spells_zero = spelling.octal (codes "0") (codes "U") (omega arith, (refl, tt)) refl refl

spells_decimal : Spells (codes "19L") 19
unfolding is_suffix
spells_decimal = spelling.decimal (codes "19") (codes "L") (omega arith, (refl, (refl, tt))) (λ is. absurd (omega (arith, is))) refl

-- and in none: an 8 behind a 0, no digit behind 0x, a letter that is no suffix
spells_no_eight : (n : ℕ) → ¬ Spells (codes "08") n
unfolding reading
spells_no_eight n h = malformed (codes "08") refl n h

spells_no_prefix : (n : ℕ) → ¬ Spells (codes "0x") n
unfolding reading
spells_no_prefix n h = malformed (codes "0x") refl n h

pub spells_no_letter : (n : ℕ) → ¬ Spells (codes "1a") n
unfolding reading
spells_no_letter n h = malformed (codes "1a") refl n h

-- what is read of words: the widest number, the next, and none
widest : Spells (codes "4294967295") 4294967295
unfolding is_suffix
widest = spelling.decimal (codes "4294967295") (codes "") (omega arith, (refl, (refl, (refl, (refl, (refl, (refl, (refl, (refl, (refl, (refl, tt))))))))))) (λ is. absurd (omega (arith, is))) refl

pub wider : Spells (codes "4294967296") 4294967296
unfolding is_suffix
wider = spelling.decimal (codes "4294967296") (codes "") (omega arith, (refl, (refl, (refl, (refl, (refl, (refl, (refl, (refl, (refl, (refl, tt))))))))))) (λ is. absurd (omega (arith, is))) refl

-- a word that is read as a number spells no other
same_as_read : (word : List ℕ) (m n : ℕ) → number_of word ≡ Ok m → Spells word n → n ≡ m
same_as_read word m n read spells = (told_ok n m (sym (spelled word n spells) ∙ read)).0

widest_is_read : IsReadOf (codes "4294967295") (Ok 4294967295)
widest_is_read = (widest, omega arith)

widest_is_not_wide : ¬ IsReadOf (codes "4294967295") (Err TooWide)
unfolding reading
widest_is_not_wide h = absurd (omega (arith, h.2, same_as_read (codes "4294967295") 4294967295 h.0 refl h.1))

wider_is_wide : IsReadOf (codes "4294967296") (Err TooWide)
wider_is_wide = (4294967296, wider, omega arith)

wider_is_not_read : FailsBy (4294967296 ≤ 4294967295) (IsReadOf (codes "4294967296") (Ok 4294967296))
wider_is_not_read = record { needs = λ h. h.1; suffices = λ fits. (wider, fits); fails = λ fits. absurd (omega (arith, fits)) }

none_is_read : IsReadOf (codes "08") (Err Malformed)
none_is_read = spells_no_eight

number_is_not_malformed : ¬ IsReadOf (codes "017") (Err Malformed)
number_is_not_malformed h = h 15 spells_octal
