-- The number that is read of a word is the one that it spells.
use Rattle.std.proofs.Common.{◌≡◌, ◌≢◌, ℕ, ◌<◌, ◌≤◌, List, [], ◌∷◌, ◌++◌, Bool, true, false, cond, ◌||◌, not, eqb, leb, length, take, drop, Result, Ok, Err, refl, sym, ap, ◌∙◌, subst, ⊎_elim, arith, slice_index, codes}
use Rattle.std.specs.List.{AllByRecursion, prefix_len, list_any}
use Rattle.std.specs.Char.{is_digit}
use Rattle.std.specs.Str.{bytes_eq}
use Rattle.std.specs.Str.Parse.{digits_value}
use Rattle.std.proofs.Math.Seq.{take-append_seam, drop-append_seam}
use Rattle.std.proofs.lemmas.Bool.{cond_both, eqb-false, ne_eqb, leb-true, leb-false, false≢true, or_cases, or_parts}
use Rattle.std.proofs.lemmas.List.{get_or-take, take-append-drop}
use Rattle.std.proofs.lemmas.List.Folds.{length-prefix_len}
use Rattle.std.proofs.lemmas.Slice.Eq.{bytes_eq-Decides}
use Rattle.dts_lex.specs.declared.number.NumberFault.{NumberFault}
use Rattle.dts_lex.specs.declared.number.NumberFault.TheVariants.{Malformed, TooWide}
use Rattle.dts_lex.specs.Number.{is_suffix, digits_and_suffix, number_of}
use Rattle.dts_lex.specs.Spelling.{AreDigits, Spells, IsReadOf}
use Rattle.dts_lex.specs.Spelling as spelling
use Rattle.dts_lex.proofs.ShapeLemmas.{all_prefix}
use Rattle.dts_lex.proofs.CellsLemmas.{first_byte}

-- what is read where a word spells a number
abbrev pub told : ℕ → Result ℕ NumberFault
told n = cond (leb n 4294967295) (Ok n) (Err TooWide)

-- what holds of each of some texts holds of one that is among them
among_texts : (P : List ℕ → Type 0) (texts : List (List ℕ)) (bytes : List ℕ) → AllByRecursion P texts → list_any (bytes_eq bytes) texts ≡ true → P bytes
among_texts P [] bytes all is = absurd (false≢true is)
among_texts P (text ∷ texts) bytes all is =
    ⊎_elim
    (λ same. subst P (sym ((bytes_eq-Decides bytes text).0 same)) all.0)
    (λ more. among_texts P texts bytes all.1 more)
    (or_cases (bytes_eq bytes text) (list_any (bytes_eq bytes) texts) is)

-- the suffixes
abbrev suffixes : List (List ℕ)
suffixes = codes "" ∷ codes "U" ∷ codes "L" ∷ codes "UL" ∷ codes "LL" ∷ codes "ULL" ∷ []

-- a suffix begins with no digit
suffix_stops : (p : ℕ → Bool) (suffix : List ℕ) → p 85 ≡ false → p 76 ≡ false → is_suffix suffix ≡ true → prefix_len p suffix ≡ 0
unfolding is_suffix
suffix_stops p suffix no_u no_l is =
    among_texts (λ bytes. prefix_len p bytes ≡ 0) suffixes suffix
    (refl, (rw no_u refl, (rw no_l refl, (rw no_u refl, (rw no_l refl, (rw no_u refl, tt))))))
    is

-- nor with an x
suffix_no_x : (suffix : List ℕ) → is_suffix suffix ≡ true → slice_index suffix 0 ≢ 120
unfolding is_suffix
suffix_no_x suffix is =
    among_texts (λ bytes. slice_index bytes 0 ≢ 120) suffixes suffix
    ((λ x. absurd (omega (arith, x))), ((λ x. absurd (omega (arith, x))), ((λ x. absurd (omega (arith, x))), ((λ x. absurd (omega (arith, x))), ((λ x. absurd (omega (arith, x))), ((λ x. absurd (omega (arith, x))), tt))))))
    is

-- a run of digits goes up to the suffix
run_all : (p : ℕ → Bool) (digits suffix : List ℕ) → AllByRecursion (λ c. p c ≡ true) digits → prefix_len p suffix ≡ 0 → prefix_len p (digits ++ suffix) ≡ length digits
run_all p [] suffix all none = none
run_all p (c ∷ digits) suffix all none = let rest = run_all p digits suffix all.1 none in rw (all.0, rest) (omega arith)

digits_exact : (base : ℕ) (digits suffix : List ℕ) → AreDigits base digits → is_digit 85 base ≡ false → is_digit 76 base ≡ false → is_suffix suffix ≡ true → digits_and_suffix base (digits ++ suffix) ≡ told (digits_value base digits)
unfolding digits_and_suffix
digits_exact base digits suffix are no_u no_l is =
    let p : ℕ → Bool = λ c. is_digit c base in
    let count : prefix_len p (digits ++ suffix) ≡ length digits = run_all p digits suffix are.1 (suffix_stops p suffix no_u no_l is) in
    let some : eqb (length digits) 0 ≡ false = ne_eqb (length digits) 0 (λ none. absurd (omega (arith, none, are.0))) in
    rw (count, take-append_seam digits suffix, drop-append_seam digits suffix, some, is) refl

-- digits that begin with a 0 have no x behind it
octal_no_x : (c : ℕ) (digits suffix : List ℕ) → c ≡ 48 → AllByRecursion (λ d. is_digit d 8 ≡ true) digits → is_suffix suffix ≡ true → digits_and_suffix 8 (c ∷ digits ++ suffix) ≡ number_of (c ∷ digits ++ suffix)
unfolding number_of
octal_no_x c [] [] zero_first all is = rw zero_first refl
octal_no_x c [] (x ∷ suffix) zero_first all is =
    let no_x : eqb 120 x ≡ false = ne_eqb 120 x (λ same. absurd (suffix_no_x (x ∷ suffix) is (sym same))) in
    rw (zero_first, no_x) refl
octal_no_x c (d ∷ digits) suffix zero_first all is =
    let no_x : eqb 120 d ≡ false = ne_eqb 120 d (λ same. absurd (false≢true (ap (λ b. is_digit b 8) same ∙ all.0))) in
    rw (zero_first, no_x) refl

decimal_first : (c : ℕ) (rest : List ℕ) → c ≢ 48 → digits_and_suffix 10 (c ∷ rest) ≡ number_of (c ∷ rest)
unfolding number_of
decimal_first c rest other =
    let no_zero : eqb 48 c ≡ false = ne_eqb 48 c (λ same. absurd (other (sym same))) in
    rw no_zero refl

octal_spelled : (digits suffix : List ℕ) → AreDigits 8 digits → slice_index digits 0 ≡ 48 → is_suffix suffix ≡ true → number_of (digits ++ suffix) ≡ told (digits_value 8 digits)
octal_spelled [] suffix are first is = absurd (omega (arith, are.0))
octal_spelled (c ∷ digits) suffix are first is = sym (octal_no_x c digits suffix first are.1.1 is) ∙ digits_exact 8 (c ∷ digits) suffix are refl refl is

decimal_spelled : (digits suffix : List ℕ) → AreDigits 10 digits → slice_index digits 0 ≢ 48 → is_suffix suffix ≡ true → number_of (digits ++ suffix) ≡ told (digits_value 10 digits)
decimal_spelled [] suffix are first is = absurd (omega (arith, are.0))
decimal_spelled (c ∷ digits) suffix are first is = sym (decimal_first c (digits ++ suffix) first) ∙ digits_exact 10 (c ∷ digits) suffix are refl refl is

hexadecimal_spelled : (digits suffix : List ℕ) → AreDigits 16 digits → is_suffix suffix ≡ true → number_of (codes "0x" ++ digits ++ suffix) ≡ told (digits_value 16 digits)
unfolding number_of
hexadecimal_spelled digits suffix are is = digits_exact 16 digits suffix are refl refl is

-- a word that spells a number is read as that
pub spelled : (word : List ℕ) (n : ℕ) → Spells word n → number_of word ≡ told n
spelled _ _ (spelling.hexadecimal digits suffix are is) = hexadecimal_spelled digits suffix are is
spelled _ _ (spelling.octal digits suffix are first is) = octal_spelled digits suffix are first is
spelled _ _ (spelling.decimal digits suffix are first is) = decimal_spelled digits suffix are first is

told_fits : (n : ℕ) → told n ≡ Err Malformed → ⊥
told_fits n =
    cond_both (leb n 4294967295) _ _ (λ (r : Result ℕ NumberFault). r ≡ Err Malformed → ⊥) (λ _ is. absurd (cc)) (λ _ is. absurd (cc))

-- a malformed word spells none
pub malformed : (word : List ℕ) → number_of word ≡ Err Malformed → (n : ℕ) → Spells word n → ⊥
malformed word is n spells = told_fits n (sym (spelled word n spells) ∙ is)

not_not : (b : Bool) → not b ≡ false → b ≡ true
not_not true is = refl
not_not false is = absurd (false≢true (sym is))

-- digits and a suffix that are read as a number
record ReadDigits (base : ℕ) (bytes : List ℕ) (r : Result ℕ NumberFault) : Type 0 where
  digits : List ℕ
  suffix : List ℕ
  parts : digits ++ suffix ≡ bytes
  are : AreDigits base digits
  says_nothing : is_suffix suffix ≡ true
  first : slice_index digits 0 ≡ slice_index bytes 0
  value : r ≡ told (digits_value base digits)

read_digits : (base : ℕ) (bytes : List ℕ) → digits_and_suffix base bytes ≢ Err Malformed → ReadDigits base bytes (digits_and_suffix base bytes)
unfolding digits_and_suffix
read_digits base bytes =
    let p : ℕ → Bool = λ c. is_digit c base in
    let count = prefix_len p bytes in
    cond_both (eqb count 0 || not (is_suffix (drop count bytes))) _ _ (λ (r : Result ℕ NumberFault). r ≢ Err Malformed → ReadDigits base bytes r)
    (λ _ good. absurd (good refl))
    (λ good _.
    let parts = or_parts (eqb count 0) (not (is_suffix (drop count bytes))) good in
    let some : 0 < count = let none : count ≡ 0 → ⊥ = eqb-false count 0 parts.0 in omega (arith, none) in
    record {
      digits = take count bytes;
      suffix = drop count bytes;
      parts = take-append-drop count bytes;
      are = (omega (arith, some, length-prefix_len p bytes), all_prefix p bytes);
      says_nothing = not_not (is_suffix (drop count bytes)) parts.1;
      first = get_or-take count bytes 0 0 some;
      value = refl;
    })

-- a word of octal digits begins with the 0, one of decimal digits with another
zero_begins : (word : List ℕ) → bytes_eq (codes "0") (take 1 word) ≡ true → slice_index word 0 ≡ 48
zero_begins word is = first_byte word 1 48 [] (sym ((bytes_eq-Decides (codes "0") (take 1 word)).0 is))

no_zero_begins : (word : List ℕ) → bytes_eq (codes "0") (take 1 word) ≡ false → slice_index word 0 ≢ 48
no_zero_begins [] other is = absurd (omega (arith, is))
no_zero_begins (c ∷ word) other is = absurd (false≢true (sym other ∙ rw is refl))

-- a word that is read as a number spells it
counts : (word : List ℕ) → number_of word ≢ Err Malformed → (n : ℕ) × Spells word n × (number_of word ≡ told n)
unfolding number_of
counts word =
    let P : Result ℕ NumberFault → Type 0 = λ r. r ≢ Err Malformed → (n : ℕ) × Spells word n × (r ≡ told n) in
    cond_both (bytes_eq (codes "0x") (take 2 word)) _ _ P
    (λ begins good.
    let h = read_digits 16 (drop 2 word) good in
    let whole : codes "0x" ++ h.digits ++ h.suffix ≡ word = ap (λ xs. codes "0x" ++ xs) h.parts ∙ ap (λ xs. xs ++ drop 2 word) ((bytes_eq-Decides (codes "0x") (take 2 word)).0 begins) ∙ take-append-drop 2 word in
    (digits_value 16 h.digits, subst (λ w. Spells w (digits_value 16 h.digits)) whole (spelling.hexadecimal h.digits h.suffix h.are h.says_nothing), h.value))
    (λ _. cond_both (bytes_eq (codes "0") (take 1 word)) _ _ P
    (λ begins good.
    let h = read_digits 8 word good in
    (digits_value 8 h.digits, subst (λ w. Spells w (digits_value 8 h.digits)) h.parts (spelling.octal h.digits h.suffix h.are (h.first ∙ zero_begins word begins) h.says_nothing), h.value))
    (λ other good.
    let h = read_digits 10 word good in
    (digits_value 10 h.digits, subst (λ w. Spells w (digits_value 10 h.digits)) h.parts (spelling.decimal h.digits h.suffix h.are (λ zero. no_zero_begins word other (sym h.first ∙ zero)) h.says_nothing), h.value)))

pub told_ok : (n m : ℕ) → told n ≡ Ok m → (n ≡ m) × (n ≤ 4294967295)
told_ok n m =
    cond_both (leb n 4294967295) _ _ (λ (r : Result ℕ NumberFault). r ≡ Ok m → (n ≡ m) × (n ≤ 4294967295))
    (λ fits is. let same : n ≡ m = cc in (same, leb-true _ _ fits))
    (λ _ is. absurd (cc))

told_wide : (n : ℕ) → told n ≡ Err TooWide → 4294967295 < n
told_wide n =
    cond_both (leb n 4294967295) _ _ (λ (r : Result ℕ NumberFault). r ≡ Err TooWide → 4294967295 < n)
    (λ _ is. absurd (cc))
    (λ wide _. leb-false _ _ wide)

-- what is read of a word is the number that it spells, or why it spells none of 32 bits
pub is_read_of : (word : List ℕ) (r : Result ℕ NumberFault) → number_of word ≡ r → IsReadOf word r
is_read_of word (Ok m) is =
    let h = counts word (λ bad. let wrong : Ok m ≡ Err Malformed = sym is ∙ bad in absurd (cc)) in
    let same = told_ok h.0 m (sym h.2 ∙ is) in
    (subst (Spells word) same.0 h.1, omega (arith, same.0, same.1))
is_read_of word (Err Malformed) is = malformed word is
is_read_of word (Err TooWide) is =
    let h = counts word (λ bad. let wrong : Err TooWide ≡ Err Malformed = sym is ∙ bad in absurd (cc)) in
    (h.0, h.1, told_wide h.0 (sym h.2 ∙ is))
