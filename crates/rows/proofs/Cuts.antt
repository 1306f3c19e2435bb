-- Words between spaces, told again from the line that they make.
use Rattle.std.proofs.Common.{ℕ, ◌≡◌, ◌≢◌, ◌+◌, ◌%◌, ◌/◌, ◌^◌, ◌<◌, ◌≤◌, List, [], ◌∷◌, All, length, true, nat_lt, decimal, sym, ap, ◌∙◌, arith}
use Rattle.std.specs.List.{list_all}
use Rattle.std.proofs.lemmas.Bool.Decides.{nat_tests}
use Rattle.std.proofs.lemmas.Fmt.{decimal_by_steps}
use Rattle.std.proofs.lemmas.List.Elements.{All-nil, All-append, All-cons, All-push, All-weaker}
use Rattle.std.proofs.lemmas.List.Sums.{AllPass-from_list_all}
use Rattle.rows.specs.Names.{is_letter, is_name_byte, IsHandleName}
use Rattle.rows.specs.Words.{spaced, hex_digit, hex_text}
use Rattle.rows.proofs.Separators.{Lacks, not_split, split_once}

-- each byte stands above the space and the newline
abbrev pub Dense : List ℕ → Type 0
Dense word = All (λ b. 32 < b) word

pub Lacks-dense : (sep : ℕ) (word : List ℕ) → sep ≤ 32 → Dense word → Lacks sep word
Lacks-dense sep word low dense = All-weaker (λ b. 32 < b) (λ b. b ≢ sep) (λ b above same. omega arith) word dense

above_of_test : (b : ℕ) → nat_lt 32 b ≡ true → 32 < b
above_of_test b test = grind (arith, nat_tests)

pub dense_by_test : (word : List ℕ) → list_all (nat_lt 32) word ≡ true → Dense word
dense_by_test word test = All-weaker (λ b. nat_lt 32 b ≡ true) (λ b. 32 < b) above_of_test word (AllPass-from_list_all (nat_lt 32) word test)

pub Dense-decimal : (n : ℕ) → n < 2 ^ 64 → Dense (decimal n)
Dense-decimal n small =
    decimal_by_steps (λ _ ds. Dense ds)
    (λ k few. All-cons (λ b. 32 < b) (48 + k) [] (omega arith) (All-nil (λ b. 32 < b)))
    (λ k ds many dense. All-push (λ b. 32 < b) ds (48 + k % 10) dense (omega arith))
    n small

letter_above : (b : ℕ) → is_letter b ≡ true → 32 < b
letter_above b letter = grind (arith, nat_tests)

name_byte_above : (b : ℕ) → is_name_byte b ≡ true → 32 < b
name_byte_above b name = grind (arith, nat_tests)

pub Dense-name : (name : List ℕ) → IsHandleName name → Dense name
Dense-name [] h = absurd h
Dense-name (b ∷ bytes) (letter, names, short) =
    All-cons (λ x. 32 < x) b bytes (letter_above b letter) (All-weaker (λ x. is_name_byte x ≡ true) (λ x. 32 < x) name_byte_above bytes (AllPass-from_list_all is_name_byte bytes names))

-- no word has the separator
abbrev pub AllLack : ℕ → List (List ℕ) → Type 0
AllLack sep [] = Unit {0}
AllLack sep (w ∷ ws) = Lacks sep w × AllLack sep ws

-- words that lack spaces are told by their line
pub spaced_same : (ws vs : List (List ℕ)) → AllLack 32 ws → AllLack 32 vs → 0 < length ws → 0 < length vs → spaced ws ≡ spaced vs → ws ≡ vs
spaced_same [] vs lack lack' some some' same = absurd (omega arith)
spaced_same (w ∷ ws) [] lack lack' some some' same = absurd (omega arith)
spaced_same (w ∷ []) (v ∷ []) lack lack' some some' same = ap (λ x. x ∷ []) same
spaced_same (w ∷ []) (v ∷ v' ∷ vs) lack lack' some some' same = absurd (not_split 32 w v (spaced (v' ∷ vs)) lack.0 same)
spaced_same (w ∷ w' ∷ ws) (v ∷ []) lack lack' some some' same = absurd (not_split 32 v w (spaced (w' ∷ ws)) lack'.0 (sym same))
spaced_same (w ∷ w' ∷ ws) (v ∷ v' ∷ vs) lack lack' some some' same =
    let cut = split_once 32 w (spaced (w' ∷ ws)) v (spaced (v' ∷ vs)) lack.0 lack'.0 same in
    let rest : w' ∷ ws ≡ v' ∷ vs = spaced_same (w' ∷ ws) (v' ∷ vs) lack.1 lack'.1 (omega arith) (omega arith) cut.1 in
    ap (λ x. x ∷ w' ∷ ws) cut.0 ∙ ap (λ x. v ∷ x) rest

-- no word but maybe the last has the separator
abbrev pub LackBefore : ℕ → List (List ℕ) → Type 0
LackBefore sep [] = Unit {0}
LackBefore sep (w ∷ []) = Unit {0}
LackBefore sep (w ∷ w' ∷ ws) = Lacks sep w × LackBefore sep (w' ∷ ws)

-- no more words than there are cuts are told by their line
pub spaced_within : (ws vs : List (List ℕ)) → LackBefore 32 ws → AllLack 32 vs → 0 < length ws → 0 < length vs → length vs ≤ length ws → spaced ws ≡ spaced vs → ws ≡ vs
spaced_within [] vs lack lack' some some' few same = absurd (omega arith)
spaced_within (w ∷ ws) [] lack lack' some some' few same = absurd (omega arith)
spaced_within (w ∷ []) (v ∷ []) lack lack' some some' few same = ap (λ x. x ∷ []) same
spaced_within (w ∷ []) (v ∷ v' ∷ vs) lack lack' some some' few same = absurd (omega arith)
spaced_within (w ∷ w' ∷ ws) (v ∷ []) lack lack' some some' few same = absurd (not_split 32 v w (spaced (w' ∷ ws)) lack'.0 (sym same))
spaced_within (w ∷ w' ∷ ws) (v ∷ v' ∷ vs) lack lack' some some' few same =
    let cut = split_once 32 w (spaced (w' ∷ ws)) v (spaced (v' ∷ vs)) lack.0 lack'.0 same in
    let rest : w' ∷ ws ≡ v' ∷ vs = spaced_within (w' ∷ ws) (v' ∷ vs) lack.1 lack'.1 (omega arith) (omega arith) (omega arith) cut.1 in
    ap (λ x. x ∷ w' ∷ ws) cut.0 ∙ ap (λ x. v ∷ x) rest

-- a line lacks what its words lack
pub Lacks-spaced : (sep : ℕ) → sep ≢ 32 → (words : List (List ℕ)) → AllLack sep words → Lacks sep (spaced words)
Lacks-spaced sep other [] lack = All-nil (λ b. b ≢ sep)
Lacks-spaced sep other (w ∷ []) lack = lack.0
Lacks-spaced sep other (w ∷ v ∷ words) lack =
    All-append (λ b. b ≢ sep) w (32 ∷ spaced (v ∷ words)) lack.0 (All-cons (λ b. b ≢ sep) 32 (spaced (v ∷ words)) (λ same. other (sym same)) (Lacks-spaced sep other (v ∷ words) lack.1))

hex_digit_above : (n : ℕ) → 32 < hex_digit n
hex_digit_above n = grind (arith, nat_tests)

pub Dense-hex_text : (n : ℕ) → Dense (hex_text n)
Dense-hex_text n =
    let low = All-cons (λ b. 32 < b) (hex_digit (n % 16)) [] (hex_digit_above (n % 16)) (All-nil (λ b. 32 < b)) in
    let both = All-cons (λ b. 32 < b) (hex_digit (n / 16)) (hex_digit (n % 16) ∷ []) (hex_digit_above (n / 16)) low in
    All-cons (λ b. 32 < b) 48 (120 ∷ hex_digit (n / 16) ∷ hex_digit (n % 16) ∷ []) (omega arith) (All-cons (λ b. 32 < b) 120 (hex_digit (n / 16) ∷ hex_digit (n % 16) ∷ []) (omega arith) both)
