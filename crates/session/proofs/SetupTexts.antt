-- A setup line is spelled in one way.
use Rattle.std.proofs.Common.{ℕ, ◌≡◌, ◌/◌, ◌%◌, ◌<◌, ◌∷◌, ◌++◌, decimal, drop, refl, ap, ◌∙◌, arith, get_or}
use Rattle.std.proofs.lemmas.Bool.Decides.{nat_tests}
use Rattle.rows.specs.Words.{hex_digit, hex_text}
use Rattle.session.specs.declared.setup.Setup.{Setup}
use Rattle.session.specs.declared.setup.Setup.TheVariants.{Register, Refusal}
use Rattle.session.specs.Frame.{setup_text, IsSetup}
use Rattle.session.proofs.Frames.{differ_at}
use Rattle.rows.proofs.Separators.{split_once}
use Rattle.session.proofs.SetupLines.{numbers_same}
use Rattle.rows.proofs.Spaces.{Lacks-decimal, Lacks-hex_text}
use Rattle.std.proofs.lemmas.Fmt.{decimal_injective}

hex_digit_same : (m n : ℕ) → m < 16 → n < 16 → hex_digit m ≡ hex_digit n → m ≡ n
hex_digit_same m n few few' same = grind (arith, nat_tests)

hex_same : (m n : ℕ) → m < 256 → n < 256 → hex_text m ≡ hex_text n → m ≡ n
hex_same m n few few' same =
    let high : m / 16 ≡ n / 16 = hex_digit_same (m / 16) (n / 16) (omega arith) (omega arith) (ap (λ l. get_or l 2 0) same) in
    let low : m % 16 ≡ n % 16 = hex_digit_same (m % 16) (n % 16) (omega arith) (omega arith) (ap (λ l. get_or l 3 0) same) in
    omega (arith, high, low)

pub setup_same : (setup other : Setup) → IsSetup setup → IsSetup other → setup_text setup ≡ setup_text other → setup ≡ other
setup_same (Register chip reg value) (Register chip' reg' value') ranges ranges' same =
    let words : decimal chip ++ 32 ∷ (hex_text reg ++ 32 ∷ hex_text value) ≡ decimal chip' ++ 32 ∷ (hex_text reg' ++ 32 ∷ hex_text value') = ap (drop 5) same in
    let parts = split_once 32 (decimal chip) (hex_text reg ++ 32 ∷ hex_text value) (decimal chip') (hex_text reg' ++ 32 ∷ hex_text value') (Lacks-decimal chip ranges.0) (Lacks-decimal chip' ranges'.0) words in
    let bytes = split_once 32 (hex_text reg) (hex_text value) (hex_text reg') (hex_text value') (Lacks-hex_text reg) (Lacks-hex_text reg') parts.1 in
    let chips : chip ≡ chip' = decimal_injective chip chip' (omega (arith, ranges.0)) (omega (arith, ranges'.0)) parts.0 in
    let regs : reg ≡ reg' = hex_same reg reg' (omega (arith, ranges.1)) (omega (arith, ranges'.1)) bytes.0 in
    let values : value ≡ value' = hex_same value value' (omega (arith, ranges.2)) (omega (arith, ranges'.2)) bytes.1 in
    ap (λ c. Register c reg value) chips ∙ ap (λ r. Register chip' r value) regs ∙ ap (λ v. Register chip' reg' v) values
setup_same (Register chip reg value) (Refusal worker update) ranges ranges' same =
    absurd (differ_at 1 (setup_text (Register chip reg value)) (setup_text (Refusal worker update)) refl same)
setup_same (Refusal worker update) (Register chip reg value) ranges ranges' same =
    absurd (differ_at 1 (setup_text (Refusal worker update)) (setup_text (Register chip reg value)) refl same)
setup_same (Refusal worker update) (Refusal worker' update') ranges ranges' same =
    let words : decimal worker ++ 32 ∷ decimal update ≡ decimal worker' ++ 32 ∷ decimal update' = ap (drop 7) same in
    let parts = numbers_same worker update worker' update' (omega (arith, ranges.0)) ranges.2 (omega (arith, ranges'.0)) ranges'.2 words in
    ap (λ w. Refusal w update) parts.0 ∙ ap (λ u. Refusal worker' u) parts.1
