-- What is read of the decimal form of a number.
use Rattle.std.proofs.Common.{ℕ, ◌≡◌, ◌≢◌, ◌^◌, ◌<◌, ◌≤◌, List, length, get_or, Result, Ok, Err, sym, ap, ◌∙◌, subst, arith, decimal, IfSome, IfNone, ⊎_elim}
use Rattle.std.specs.Result.{result_ok}
use Rattle.std.specs.Str.{IsUtf8}
use Rattle.std.specs.Str.Parse.{ParsesUnsigned, digits_value, AllDigits}
use Rattle.std.proofs.lemmas.Bool.{cases_lt}
use Rattle.std.proofs.lemmas.Str.{IsUtf8-from_ascii}
use Rattle.std.proofs.lemmas.Str.Parse.{IsNumeralModel, numerals_by_value, tells_digits, parse_plain, not_in_digits}
use Rattle.std.proofs.lemmas.Fmt.{IsAscii-decimal, first_decimal, decimal_digit, digits_decimal, decimal_nonempty, parse-decimal, decimal-digits_value}
use Rattle.rows.specs.Words.{IsPlain}

-- what std's lemmas want of the digits of a number
pub decimal_model : IsNumeralModel (AllDigits 10) (digits_value 10)
decimal_model = numerals_by_value (AllDigits 10) tells_digits

pub IsUtf8-decimal : (n : ℕ) → n < 2 ^ 64 → IsUtf8 (decimal n)
IsUtf8-decimal n small = IsUtf8-from_ascii (decimal n) (IsAscii-decimal n (omega arith))

-- a zero in front is the whole number
zero_alone : (n : ℕ) → n < 2 ^ 64 → get_or (decimal n) 0 0 ≡ 48 → length (decimal n) ≤ 1
zero_alone n small front =
    ⊎_elim (λ zero. let same : n ≡ 0 = omega arith in omega (arith, ap length (ap decimal same), ap length (decimal_digit 0 (omega arith))))
    (λ more. absurd (omega (arith, first_decimal n (omega arith) (omega arith))))
    (cases_lt n 1)

pub IsPlain-decimal : (n : ℕ) → n < 2 ^ 64 → IsPlain (decimal n)
IsPlain-decimal n small =
    (not_in_digits decimal_model (decimal n) 43 (digits_decimal decimal_model n (omega arith)) (λ h. omega arith) 0 (decimal_nonempty n (omega arith)), zero_alone n small)

pub not_plain : (word : List ℕ) → (IsPlain word → ⊥) → (n : ℕ) → n < 2 ^ 64 → word ≢ decimal n
not_plain word bad n small same = bad (subst IsPlain (sym same) (IsPlain-decimal n small))

pub not_utf8 : (word : List ℕ) → (IsUtf8 word → ⊥) → (n : ℕ) → n < 2 ^ 64 → word ≢ decimal n
not_utf8 word bad n small same = bad (subst IsUtf8 (sym same) (IsUtf8-decimal n small))

-- what is read of a plain word, at a type of so many bits
module _ (bits : ℕ) (narrow : (n : ℕ) → n < 2 ^ bits → n < 2 ^ 64) where
  pub number_some : {E : Type 0} (word : List ℕ) (r : Result ℕ E) → IsPlain word → ParsesUnsigned bits 10 word r → IfSome (result_ok r) (λ n. word ≡ decimal n)
  number_some {E} word (Ok n) plain parsed =
      let read = parse_plain decimal_model {E = E} bits word (Ok n) parsed plain.0 in
      let value : n ≡ digits_value 10 word = read.1 in
      let filled : 0 < length word = read.0.1 in
      let small : digits_value 10 word < 2 ^ bits = read.0.2 in
      sym (ap decimal value ∙ decimal-digits_value decimal_model word read.0.0 filled (λ zero. omega (arith, plain.1 zero)) (narrow (digits_value 10 word) small))
  number_some word (Err e) plain parsed = tt

  pub number_none : {E : Type 0} (word : List ℕ) (r : Result ℕ E) → ParsesUnsigned bits 10 word r → IfNone (result_ok r) ((n : ℕ) → n < 2 ^ bits → word ≢ decimal n)
  number_none word (Ok n) parsed = tt
  number_none word (Err e) parsed = λ n small same. let wrong = parse-decimal bits n word (Err e) small (narrow n small) same parsed in cc
