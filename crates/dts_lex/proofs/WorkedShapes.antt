-- Bytes that are tokens, comments and gaps, and bytes that aren't, worked out by hand.
use Rattle.std.specs.Prelude.{◌≡◌, ◌≢◌, ℕ, ◌<◌, ◌≤◌, List, [], ◌∷◌, ◌++◌, true, IsOk, length, slice_range, drop, codes}
use Rattle.std.proofs.Common.{refl, inl, inr, ⊎_elim, subst, ap, sym, arith, length-append, get_or}
use Rattle.std.proofs.lemmas.Bool.{false≢true}
use Rattle.dts_lex.specs.declared.token.Kind.TheVariants.{Word, Number, Text, Directive, Ref, Sign}
use Rattle.dts_lex.specs.declared.class.Class.TheVariants as class
use Rattle.dts_lex.specs.Bytes.{is_in, is_blank, is_label_start, is_plain, is_escaped}
use Rattle.dts_lex.specs.Class.{has}
use Rattle.dts_lex.specs.Number.{is_suffix, digits_and_suffix, number_of}
use Rattle.dts_lex.specs.Lex.{SpansRise}
use Rattle.dts_lex.specs.Shape.{AllOf, IsInside, IsSign, IsOfKind, HoldsNoEnd, IsComment, IsGap, is_last, KindsFit, GapsBetween, Covers}
use Rattle.dts_lex.specs.Shape as shape
use Rattle.dts_lex.proofs.FailsBy.{FailsBy}
use Rattle.dts_lex.proofs.WorkedTexts.{token}

-- bytes of one class, and one that isn't among them
all_of_words : AllOf class.Word (codes "a-1")
unfolding has
all_of_words = (refl, (refl, (refl, tt)))

slash_in_word : ¬ AllOf class.Word (codes "a/")
unfolding has
slash_in_word h = absurd (false≢true h.1.0)

-- the inside of a string: bytes that stand for themselves, and escapes
plain_inside : IsInside (codes "a~")
unfolding is_plain
plain_inside = shape.plain refl (shape.plain refl shape.empty)

escape_inside : IsInside (92 ∷ 34 ∷ [])
unfolding is_escaped
escape_inside = shape.escape refl shape.empty

backslash_inside : ¬ IsInside (92 ∷ [])
unfolding is_plain
backslash_inside (shape.plain plain more) = absurd (false≢true plain)

other_escape : ¬ IsInside (92 ∷ 114 ∷ [])
unfolding is_plain is_escaped
other_escape (shape.plain plain more) = absurd (false≢true plain)
other_escape (shape.escape escaped more) = absurd (false≢true escaped)

-- signs
comma_sign : IsSign (codes ",")
comma_sign = inl (44, refl, refl)

path_sign : IsSign (codes "&{")
path_sign = inr refl

star_sign : ¬ IsSign (codes "*")
star_sign h =
    ⊎_elim
    (λ one.
    let same : one.0 ≡ 42 = ap (λ xs. get_or xs 0 0) (sym one.1) in
    absurd (false≢true (subst (λ b. is_in (codes "{};=:<>[],/(") b ≡ true) same one.2)))
    (λ path. absurd (omega (arith, ap length path)))
    h

two_signs : ¬ IsSign (codes "{}")
two_signs h = ⊎_elim (λ one. absurd (omega (arith, ap length one.1))) (λ path. absurd (omega (arith, ap (λ xs. get_or xs 0 0) path))) h

-- tokens of each kind, and one of each that isn't
word_bytes : IsOfKind Word (codes "a,b")
unfolding has
word_bytes = (omega arith, (refl, (refl, (refl, tt))))

no_word_bytes : FailsBy (0 < length (codes "")) (IsOfKind Word (codes ""))
no_word_bytes = record { needs = λ h. h.0; suffices = λ some. (some, tt); fails = λ some. absurd (omega arith) }

word_with_blank : FailsBy (AllOf class.Word (codes "a ")) (IsOfKind Word (codes "a "))
unfolding has
word_with_blank = record { needs = λ h. h.1; suffices = λ all. (omega arith, all); fails = λ all. absurd (false≢true all.1.0) }

number_bytes : IsOfKind Number (codes "1U")
unfolding has number_of digits_and_suffix is_suffix
number_bytes = ((refl, (refl, tt)), refl)

letters_as_number : FailsBy (IsOk (number_of (codes "ab"))) (IsOfKind Number (codes "ab"))
unfolding has number_of digits_and_suffix is_suffix
letters_as_number = record { needs = λ h. h.1; suffices = λ ok. ((refl, (refl, tt)), ok); fails = λ ok. absurd (false≢true ok) }

text_bytes : IsOfKind Text (34 ∷ 97 ∷ 34 ∷ [])
unfolding is_plain
text_bytes = (codes "a", refl, shape.plain refl shape.empty)

no_second_quote : (inside : List ℕ) → 34 ∷ [] ≢ 34 ∷ inside ++ 34 ∷ []
no_second_quote inside is = absurd (omega (arith, ap length is, length-append inside (34 ∷ [])))

text_of_one_quote : ¬ IsOfKind Text (34 ∷ [])
text_of_one_quote h = no_second_quote h.0 h.1

directive_bytes : IsOfKind Directive (codes "/dts-v1/")
unfolding has
directive_bytes = (codes "dts-v1", refl, (refl, (refl, (refl, (refl, (refl, (refl, tt)))))))

directive_without_slash : ¬ IsOfKind Directive (codes "dts-v1/")
directive_without_slash h = absurd (omega (arith, ap (λ xs. get_or xs 0 0) h.1))

reference_bytes : IsOfKind Ref (codes "&a_1")
unfolding has is_label_start
reference_bytes = (97, codes "_1", refl, refl, (refl, (refl, tt)))

reference_by_digit : ¬ IsOfKind Ref (codes "&1")
unfolding is_label_start
reference_by_digit h =
    let same : h.0 ≡ 49 = ap (λ xs. get_or xs 1 0) (sym h.2) in
    absurd (false≢true (subst (λ b. is_label_start b ≡ true) same h.3))

reference_with_dash : ¬ IsOfKind Ref (codes "&a-")
unfolding has
reference_with_dash h =
    let rest : h.1 ≡ codes "-" = sym (ap (λ xs. drop 2 xs) h.2) in
    absurd (false≢true (subst (AllOf class.Label) rest h.4).0)

sign_bytes : IsOfKind Sign (codes ";")
sign_bytes = inl (59, refl, refl)

-- comments, and bytes that are none: beyond the line, not closed, or closed twice
line_bytes : IsComment (codes "//*a")
unfolding has
line_bytes = shape.line (codes "*a") (refl, (refl, tt))

block_bytes : IsComment (codes "/*/*/")
block_bytes = shape.block (codes "/") tt

two_lines : (bytes : List ℕ) → IsComment bytes → bytes ≡ 47 ∷ 47 ∷ 10 ∷ [] → ⊥
unfolding has
two_lines _ (shape.line inside all) is =
    let rest : inside ≡ 10 ∷ [] = ap (λ xs. drop 2 xs) is in
    let none : AllOf class.Line (10 ∷ []) = subst (AllOf class.Line) rest all in
    false≢true none.0
two_lines _ (shape.block inside none) is = absurd (omega (arith, ap (λ xs. get_or xs 1 0) is))

ends_late : (inside : List ℕ) → inside ++ 42 ∷ 47 ∷ [] ≡ codes "*/*/" → HoldsNoEnd inside → ⊥
ends_late [] is none = absurd (omega (arith, ap length is))
ends_late (a ∷ []) is none = absurd (omega (arith, ap length is))
ends_late (a ∷ b ∷ inside) is none = none.0 (ap (λ xs. get_or xs 0 0) is, ap (λ xs. get_or xs 1 0) is)

closed_twice : (bytes : List ℕ) → IsComment bytes → bytes ≡ codes "/**/*/" → ⊥
closed_twice _ (shape.line inside all) is = absurd (omega (arith, ap (λ xs. get_or xs 1 0) is))
closed_twice _ (shape.block inside none) is = ends_late inside (ap (λ xs. drop 2 xs) is) none

not_closed : (bytes : List ℕ) → IsComment bytes → bytes ≡ codes "/*/" → ⊥
not_closed _ (shape.line inside all) is = absurd (omega (arith, ap (λ xs. get_or xs 1 0) is))
not_closed _ (shape.block inside none) is = absurd (omega (arith, ap length is, length-append inside (42 ∷ 47 ∷ [])))

-- gaps: nothing, blanks and comments; no letter is one
gap_of_both : IsGap (32 ∷ codes "/**/" ++ 9 ∷ [])
unfolding is_blank
gap_of_both = shape.blank 32 _ refl (shape.comment (codes "/**/") (9 ∷ []) (shape.block [] tt) (shape.blank 9 [] refl shape.empty))

letter_no_comment : (bytes rest : List ℕ) → IsComment bytes → bytes ++ rest ≡ codes "a" → ⊥
letter_no_comment _ rest (shape.line inside all) is = absurd (omega (arith, ap (λ xs. get_or xs 0 0) is))
letter_no_comment _ rest (shape.block inside none) is = absurd (omega (arith, ap (λ xs. get_or xs 0 0) is))

letter_no_gap : (bytes : List ℕ) → IsGap bytes → bytes ≡ codes "a" → ⊥
unfolding is_blank
letter_no_gap _ shape.empty is = absurd (omega (arith, ap length is))
letter_no_gap _ (shape.blank b rest blank more) is =
    let same : b ≡ 97 = ap (λ xs. get_or xs 0 0) is in
    absurd (false≢true (subst (λ c. is_blank c ≡ true) same blank))
letter_no_gap _ (shape.comment bytes rest comment more) is = letter_no_comment bytes rest comment is

-- between two places: a token in blanks, and a letter that no token has
gaps_about : GapsBetween (codes " a ") 0 3 (token Word 1 2 ∷ [])
unfolding is_blank
gaps_about = (shape.blank 32 [] refl shape.empty, shape.blank 32 [] refl shape.empty)

letter_between : ¬ GapsBetween (codes "ab") 0 2 (token Word 1 2 ∷ [])
letter_between h = letter_no_gap (codes "a") h.0 refl

-- tokens that cover their text: to its end, and to a token behind which nothing is looked at
covers_all : Covers (codes "a ") (token Word 0 1 ∷ [])
unfolding is_blank
covers_all = record { to = 2; gaps = (shape.empty, shape.blank 32 [] refl shape.empty); ends = inl refl }

covers_to_last : Covers (codes "(a") (token Sign 0 1 ∷ [])
covers_to_last = record { to = 1; gaps = (shape.empty, shape.empty); ends = inr (token Sign 0 1, refl, refl, refl) }

-- a letter that no token has isn't covered
covers_no_letter : ¬ Covers (codes "a") []
covers_no_letter h =
    ⊎_elim
    (λ end.
    let whole : IsGap (codes "a") = subst (λ to. IsGap (slice_range (codes "a") 0 to)) end h.gaps in
    letter_no_gap (codes "a") whole refl)
    (λ last. let wrong = last.1 in absurd (cc))
    h.ends

-- nor does a token end the reading that others may follow
covers_no_rest : ¬ Covers (codes ";a") (token Sign 0 1 ∷ [])
covers_no_rest h =
    ⊎_elim
    (λ end.
    let rest : IsGap (codes "a") = subst (λ to. IsGap (slice_range (codes ";a") 1 to)) end h.gaps.1 in
    letter_no_gap (codes "a") rest refl)
    (λ last.
    let same : last.0 ≡ token Sign 0 1 = cc in
    absurd (false≢true (subst (λ t. is_last (codes ";a") t ≡ true) same last.3)))
    h.ends

-- kinds that fit, and one that doesn't
kinds_fit : KindsFit (codes "a;") (token Word 0 1 ∷ token Sign 1 2 ∷ [])
unfolding has
kinds_fit = ((omega arith, (refl, tt)), (inl (59, refl, refl), tt))

second_kind_is_wrong : FailsBy (IsOfKind Word (codes ";")) (KindsFit (codes "a;") (token Word 0 1 ∷ token Word 1 2 ∷ []))
unfolding has
second_kind_is_wrong = record { needs = λ h. h.1.0; suffices = λ second. ((omega arith, (refl, tt)), (second, tt)); fails = λ second. absurd (false≢true second.1.0) }

-- spans that rise, and that are empty, overlap, or end too late
spans_rise : SpansRise 1 6 (token Word 1 3 ∷ token Sign 3 4 ∷ token Word 5 6 ∷ [])
spans_rise = (omega arith, omega arith, (omega arith, omega arith, (omega arith, omega arith, omega arith)))

empty_token : FailsBy (2 < 2) (SpansRise 1 6 (token Word 2 2 ∷ []))
empty_token = record { needs = λ h. h.1; suffices = λ some. (omega arith, some, omega arith); fails = λ some. absurd (omega arith) }

overlap : FailsBy (3 ≤ 2) (SpansRise 1 6 (token Word 1 3 ∷ token Word 2 4 ∷ []))
overlap = record { needs = λ h. h.2.0; suffices = λ behind. (omega arith, omega arith, (behind, omega arith, omega arith)); fails = λ behind. absurd (omega arith) }

too_early : FailsBy (2 ≤ 1) (SpansRise 2 6 (token Word 1 3 ∷ []))
too_early = record { needs = λ h. h.0; suffices = λ behind. (behind, omega arith, omega arith); fails = λ behind. absurd (omega arith) }

too_late : FailsBy (7 ≤ 6) (SpansRise 1 6 (token Word 1 7 ∷ []))
too_late = record { needs = λ h. h.2; suffices = λ within. (omega arith, omega arith, within); fails = λ within. absurd (omega arith) }
