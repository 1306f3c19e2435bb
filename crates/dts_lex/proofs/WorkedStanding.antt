-- Tokens that stand as they should, and that fail in one point alone, worked out by hand.
use Rattle.std.specs.Prelude.{◌≡◌, ◌≢◌, ℕ, ◌⊎◌, List, [], ◌∷◌, ◌++◌, length, slice_index, slice_range, codes}
use Rattle.std.proofs.Common.{refl, inl, inr, ⊎_elim, subst, ap, sym, arith, length-append, get_or, ◌∙◌}
use Rattle.std.specs.List.{AllByRecursion}
use Rattle.std.proofs.lemmas.Bool.{false≢true}
use Rattle.dts_lex.specs.declared.token.Kind.TheVariants.{Word, Number, Text, Directive, Ref, Sign}
use Rattle.dts_lex.specs.declared.token.Token.{Token}
use Rattle.dts_lex.specs.declared.class.Class.TheVariants as class
use Rattle.dts_lex.specs.Class.{has}
use Rattle.dts_lex.specs.Shape.{AllOf}
use Rattle.dts_lex.specs.Standing.{HasNoneAt, FollowsLoneSlash, IsUncut, RunsEnd, IsTheSign, StandsAmongCells, BeginsWithDigit, StandsAsNumber, NumbersStand}
use Rattle.dts_lex.proofs.FailsBy.{FailsBy}
use Rattle.dts_lex.proofs.CellsLemmas.{NumbersStand-none, NumbersStand-push}
use Rattle.dts_lex.proofs.WorkedTexts.{token}

-- behind ab stand a blank, the end of the text, and b where it is cut
none_at_blank : HasNoneAt class.Word (codes "ab c") 2
unfolding has
none_at_blank inside = refl

none_at_end : HasNoneAt class.Word (codes "ab") 2
none_at_end inside = absurd (omega arith)

some_in_word : ¬ HasNoneAt class.Word (codes "ab") 1
unfolding has
some_in_word none = absurd (false≢true (sym (none (omega arith))))

-- words, numbers and references that are whole or cut
word_whole : IsUncut Word (codes "ab c") 0 2
unfolding has
word_whole inside = refl

word_cut : ¬ IsUncut Word (codes "ab c") 0 1
unfolding has
word_cut none = absurd (false≢true (sym (none (omega arith))))

number_whole : IsUncut Number (codes "<12>") 1 3
unfolding has
number_whole inside = refl

number_cut : ¬ IsUncut Number (codes "<12>") 1 2
unfolding has
number_cut none = absurd (false≢true (sym (none (omega arith))))

-- a dash may follow a reference, though not a word
reference_whole : IsUncut Ref (codes "&a-b") 0 2
unfolding has
reference_whole inside = refl

reference_cut : ¬ IsUncut Ref (codes "&a_b") 0 2
unfolding has
reference_cut none = absurd (false≢true (sym (none (omega arith))))

text_whole : IsUncut Text (codes "abc") 0 1
text_whole = tt

-- a directive up to its second slash; up to its third, or none, it isn't whole
directive_whole : IsUncut Directive (codes "/a/b/") 0 3
directive_whole = (codes "a", refl, ((λ is. absurd (omega (arith, is))), tt))

name_of : (name : List ℕ) → codes "/a/b/" ≡ 47 ∷ name ++ 47 ∷ [] → AllByRecursion (λ b. b ≢ 47) name → ⊥
name_of [] is all = absurd (omega (arith, ap length is))
name_of (x ∷ []) is all = absurd (omega (arith, ap length is))
name_of (x ∷ y ∷ name) is all = all.1.0 (sym (ap (λ xs. get_or xs 2 0) is))

directive_too_long : ¬ IsUncut Directive (codes "/a/b/") 0 5
directive_too_long h = name_of h.0 h.1 h.2

last_of : (name : List ℕ) → codes "/ab" ≡ 47 ∷ name ++ 47 ∷ [] → ⊥
last_of [] is = absurd (omega (arith, ap length is))
last_of (x ∷ []) is = absurd (omega (arith, ap (λ xs. get_or xs 2 0) is))
last_of (x ∷ y ∷ name) is = absurd (omega (arith, ap length is, length-append name (47 ∷ [])))

directive_too_short : ¬ IsUncut Directive (codes "/ab/") 0 3
directive_too_short h = last_of h.0 h.1

-- behind a slash alone: a blank, so no name with a slash; then a name without one
blank_follows : (name more : List ℕ) → AllOf class.Directive name → codes " a/" ≢ name ++ 47 ∷ more
unfolding has
blank_follows [] more all is = absurd (omega (arith, ap (λ xs. get_or xs 0 0) is))
blank_follows (x ∷ name) more all is = absurd (false≢true (ap (has class.Directive) (ap (λ xs. get_or xs 0 0) is) ∙ all.0))

slash_alone : FollowsLoneSlash (codes " a/")
slash_alone = record { no_star = λ is. absurd (omega (arith, is)); no_close = blank_follows }

sign_whole : IsUncut Sign (codes "/ a/") 0 1
sign_whole is = slash_alone

other_sign : IsUncut Sign (codes ";*") 0 1
other_sign is = absurd (omega (arith, is))

star_follows : (name more : List ℕ) → AllOf class.Directive name → codes "*" ≢ name ++ 47 ∷ more
unfolding has
star_follows [] more all is = absurd (omega (arith, ap (λ xs. get_or xs 0 0) is))
star_follows (x ∷ name) more all is = absurd (false≢true (ap (has class.Directive) (ap (λ xs. get_or xs 0 0) is) ∙ all.0))

-- a star, and a name with a slash, begin more
begins_comment : FailsBy (slice_index (codes "*") 0 ≢ 42) (FollowsLoneSlash (codes "*"))
begins_comment = record { needs = λ h. h.no_star; suffices = λ no_star. record { no_star = no_star; no_close = star_follows }; fails = λ no_star. no_star refl }

begins_directive : FailsBy ((name more : List ℕ) → AllOf class.Directive name → codes "a/" ≢ name ++ 47 ∷ more) (FollowsLoneSlash (codes "a/"))
unfolding has
begins_directive = record { needs = λ h. h.no_close; suffices = λ no_close. record { no_star = λ is. absurd (omega (arith, is)); no_close = no_close }; fails = λ no_close. no_close (codes "a") [] (refl, tt) refl }

begins_line_comment : FailsBy ((name more : List ℕ) → AllOf class.Directive name → codes "/" ≢ name ++ 47 ∷ more) (FollowsLoneSlash (codes "/"))
begins_line_comment = record { needs = λ h. h.no_close; suffices = λ no_close. record { no_star = λ is. absurd (omega (arith, is)); no_close = no_close }; fails = λ no_close. no_close [] [] tt refl }

sign_cut : ¬ IsUncut Sign (codes "/*") 0 1
sign_cut h = (h refl).no_star refl

-- two words that are whole; the second alone is cut
runs_end : RunsEnd (codes "a b") (token Word 0 1 ∷ token Word 2 3 ∷ [])
unfolding has
runs_end = ((λ _. refl), ((λ inside. absurd (omega arith)), tt))

second_is_cut : ¬ RunsEnd (codes "a bc") (token Word 0 1 ∷ token Word 2 3 ∷ [])
unfolding has
second_is_cut h = absurd (false≢true (sym (h.1.0 (omega arith))))

-- the sign <, another, and a word
the_sign : IsTheSign (codes "<") 60 (token Sign 0 1)
the_sign = (refl, refl)

another_sign : FailsBy (slice_range (codes ">") 0 1 ≡ 60 ∷ []) (IsTheSign (codes ">") 60 (token Sign 0 1))
another_sign = record { needs = λ h. h.1; suffices = λ is. (refl, is); fails = λ is. absurd (omega (arith, ap (λ xs. get_or xs 0 0) is)) }

a_string : FailsBy (Text ≡ Sign) (IsTheSign (codes "<") 60 (token Text 0 1))
a_string = record { needs = λ h. h.0; suffices = λ is. (is, refl); fails = λ is. absurd (cc) }

-- among cells: behind a <, also where others follow it
opened : StandsAmongCells (codes "<") (token Sign 0 1 ∷ [])
opened = record { front = []; opening = token Sign 0 1; since = []; parts = refl; opens = (refl, refl); stays = tt }

pub opened_before : StandsAmongCells (codes "<1") (token Sign 0 1 ∷ [])
opened_before = record { front = []; opening = token Sign 0 1; since = []; parts = refl; opens = (refl, refl); stays = tt }

still_open : StandsAmongCells (codes ">=<a;") (token Sign 0 1 ∷ token Sign 1 2 ∷ token Sign 2 3 ∷ token Word 3 4 ∷ token Sign 4 5 ∷ [])
still_open = record {
  front = token Sign 0 1 ∷ token Sign 1 2 ∷ [];
  opening = token Sign 2 3;
  since = token Word 3 4 ∷ token Sign 4 5 ∷ [];
  parts = refl;
  opens = (refl, refl);
  stays = ((λ is. absurd (cc)), ((λ is. absurd (omega (arith, ap (λ xs. get_or xs 0 0) is.1))), tt));
}

-- not among them: behind no token, behind another sign, and behind a >
pub never_opened : (text : List ℕ) → ¬ StandsAmongCells text []
never_opened text h = absurd (omega (arith, ap length h.parts, length-append h.front (h.opening ∷ h.since)))

first_is : (front since : List Token) (t u : Token) → u ∷ [] ≡ front ++ t ∷ since → u ≡ t
first_is [] since t u is = cc
first_is (x ∷ front) since t u is = absurd (omega (arith, ap length is, length-append front (t ∷ since)))

not_opened : ¬ StandsAmongCells (codes ";") (token Sign 0 1 ∷ [])
not_opened h =
    let same = first_is h.front h.since h.opening (token Sign 0 1) h.parts in
    absurd (omega (arith, ap (λ xs. get_or xs 0 0) (ap (λ t. slice_range (codes ";") t.start t.end) same ∙ h.opens.1)))

one_of_two : (front since : List Token) (t u v : Token) → u ∷ v ∷ [] ≡ front ++ t ∷ since → (since ≡ v ∷ []) ⊎ (v ≡ t)
one_of_two [] since t u v is = inl (cc)
one_of_two (x ∷ front) since t u v is = inr (first_is front since t v (cc))

closed_again : ¬ StandsAmongCells (codes "<>") (token Sign 0 1 ∷ token Sign 1 2 ∷ [])
closed_again h =
    ⊎_elim
    (λ rest.
    let stays : AllByRecursion (λ t. IsTheSign (codes "<>") 62 t → ⊥) (token Sign 1 2 ∷ []) = subst (AllByRecursion (λ t. IsTheSign (codes "<>") 62 t → ⊥)) rest h.stays in
    stays.0 (refl, refl))
    (λ same. absurd (omega (arith, ap (λ xs. get_or xs 0 0) (ap (λ t. slice_range (codes "<>") t.start t.end) same ∙ h.opens.1))))
    (one_of_two h.front h.since h.opening (token Sign 0 1) (token Sign 1 2) h.parts)

-- a number among cells, and a word that is none
number_stands : StandsAsNumber (codes "<1") (token Sign 0 1 ∷ []) (token Number 1 2)
unfolding has
number_stands = record { run = λ _. (refl, tt); digit = λ _. refl; cells = λ _. opened_before; only = λ _ _. refl }

word_stands : StandsAsNumber (codes "<a") (token Sign 0 1 ∷ []) (token Word 1 2)
word_stands = record { run = λ is. absurd (cc); digit = λ is. absurd (cc); cells = λ is. absurd (cc); only = λ digit. absurd (false≢true digit) }

word_without_cells : StandsAsNumber (codes "1") [] (token Word 0 1)
word_without_cells = record { run = λ is. absurd (cc); digit = λ is. absurd (cc); cells = λ is. absurd (cc); only = λ _ among. absurd (never_opened (codes "1") among) }

-- numbers that hold another byte, begin with a letter, or stand outside cells
number_with_sign : FailsBy (Number ≡ Number → AllOf class.Word (codes "1;")) (StandsAsNumber (codes "<1;") (token Sign 0 1 ∷ []) (token Number 1 3))
unfolding has
number_with_sign = record {
  needs = λ h. h.run;
  suffices = λ run. record { run = run; digit = λ _. refl; cells = λ _. record { front = []; opening = token Sign 0 1; since = []; parts = refl; opens = (refl, refl); stays = tt }; only = λ _ _. refl };
  fails = λ run. absurd (false≢true (run refl).1.0);
}

number_by_letter : FailsBy (Number ≡ Number → BeginsWithDigit (codes "<a") (token Number 1 2)) (StandsAsNumber (codes "<a") (token Sign 0 1 ∷ []) (token Number 1 2))
unfolding has
number_by_letter = record {
  needs = λ h. h.digit;
  suffices = λ digit. record { run = λ _. (refl, tt); digit = digit; cells = λ _. record { front = []; opening = token Sign 0 1; since = []; parts = refl; opens = (refl, refl); stays = tt }; only = λ _ _. refl };
  fails = λ digit. absurd (false≢true (digit refl));
}

number_outside : FailsBy (Number ≡ Number → StandsAmongCells (codes "1") []) (StandsAsNumber (codes "1") [] (token Number 0 1))
unfolding has
number_outside = record {
  needs = λ h. h.cells;
  suffices = λ cells. record { run = λ _. (refl, tt); digit = λ _. refl; cells = cells; only = λ _ _. refl };
  fails = λ cells. never_opened (codes "1") (cells refl);
}

-- and a word that should be a number
word_of_digit : FailsBy (BeginsWithDigit (codes "<1") (token Word 1 2) → StandsAmongCells (codes "<1") (token Sign 0 1 ∷ []) → Word ≡ Number) (StandsAsNumber (codes "<1") (token Sign 0 1 ∷ []) (token Word 1 2))
word_of_digit = record {
  needs = λ h. h.only;
  suffices = λ only. record { run = λ is. absurd (cc); digit = λ is. absurd (cc); cells = λ is. absurd (cc); only = only };
  fails = λ only. let wrong = only refl opened_before in absurd (cc);
}

-- all tokens of a text
numbers_stand : NumbersStand (codes "1") (token Word 0 1 ∷ [])
numbers_stand = NumbersStand-push (codes "1") [] (token Word 0 1) (NumbersStand-none (codes "1")) word_without_cells

numbers_do_not : ¬ NumbersStand (codes "1") (token Number 0 1 ∷ [])
numbers_do_not h = never_opened (codes "1") ((h [] [] (token Number 0 1) refl).cells refl)
