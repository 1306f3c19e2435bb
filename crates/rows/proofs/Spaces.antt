-- Words with a space between them.
use Rattle.std.proofs.Common.{ℕ, ◌≡◌, ◌≢◌, ◌/◌, ◌%◌, ◌^◌, ◌<◌, List, [], ◌∷◌, ◌++◌, decimal, sym, ◌∙◌, arith}
use Rattle.std.proofs.lemmas.Bool.Decides.{nat_tests}
use Rattle.std.proofs.lemmas.List.Elements.{All-nil, All-cons, All-from_get_or}
use Rattle.std.proofs.lemmas.Str.Parse.{not_in_digits}
use Rattle.std.proofs.lemmas.Fmt.{digits_decimal}
use Rattle.rows.specs.Words.{hex_digit, hex_text}
use Rattle.rows.proofs.Numerals.{decimal_model}
use Rattle.rows.proofs.Separators.{Lacks, split_once}

pub Lacks-decimal : (n : ℕ) → n < 2 ^ 32 → Lacks 32 (decimal n)
Lacks-decimal n small =
    All-from_get_or (λ b. b ≢ 32) (decimal n) 0 (not_in_digits decimal_model (decimal n) 32 (digits_decimal decimal_model n (omega arith)) (λ h. omega arith))

hex_digit-≢ : (n : ℕ) → hex_digit n ≢ 32
hex_digit-≢ n = grind (arith, nat_tests)

pub Lacks-hex_text : (n : ℕ) → Lacks 32 (hex_text n)
Lacks-hex_text n =
    let low = All-cons (λ b. b ≢ 32) (hex_digit (n % 16)) [] (hex_digit-≢ (n % 16)) (All-nil (λ b. b ≢ 32)) in
    let both = All-cons (λ b. b ≢ 32) (hex_digit (n / 16)) (hex_digit (n % 16) ∷ []) (hex_digit-≢ (n / 16)) low in
    All-cons (λ b. b ≢ 32) 48 (120 ∷ hex_digit (n / 16) ∷ hex_digit (n % 16) ∷ []) (λ h. omega (arith, h)) (All-cons (λ b. b ≢ 32) 120 (hex_digit (n / 16) ∷ hex_digit (n % 16) ∷ []) (λ h. omega (arith, h)) both)

-- how a text of two words isn't spelled
module _ (words a b x y : List ℕ) (split : words ≡ a ++ 32 ∷ b) (la : Lacks 32 a) (lx : Lacks 32 x) where
  pub first_differs : a ≢ x → words ≢ x ++ 32 ∷ y
  first_differs apart same = apart (split_once 32 a b x y la lx (sym split ∙ same)).0

  pub second_differs : b ≢ y → words ≢ x ++ 32 ∷ y
  second_differs apart same = apart (split_once 32 a b x y la lx (sym split ∙ same)).1
