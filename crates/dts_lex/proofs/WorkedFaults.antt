-- Faults and why they stand where they do, worked out by hand, and what fails in one point alone.
use Rattle.std.specs.Prelude.{◌≡◌, ◌≢◌, ℕ, ◌+◌, ◌<◌, ◌⊎◌, List, [], ◌∷◌, ◌++◌, true, false, Ok, Err, length, take, drop, slice_index, codes}
use Rattle.std.proofs.Common.{refl, zero, suc, ◌-◌, inl, inr, ⊎_elim, subst, ap, sym, ◌∙◌, arith, get_or}
use Rattle.std.specs.List.{AllByRecursion}
use Rattle.std.specs.Char.{is_ascii_digit}
use Rattle.std.proofs.lemmas.Bool.{false≢true}
use Rattle.dts_lex.specs.declared.fault.LexFault.TheVariants.{BadChar, Unclosed, NumberTooWide, Memory}
use Rattle.dts_lex.specs.declared.token.Kind.TheVariants.{Word, Number, Sign}
use Rattle.dts_lex.specs.declared.token.Token.{Token}
use Rattle.dts_lex.specs.declared.class.Class.TheVariants as class
use Rattle.dts_lex.specs.Bytes.{is_in, is_blank, is_label_start, is_plain, is_escaped}
use Rattle.dts_lex.specs.Class.{has}
use Rattle.dts_lex.specs.Lex.{lexed}
use Rattle.dts_lex.specs.Shape.{AllOf, IsInside, HoldsNoEnd}
use Rattle.dts_lex.specs.Shape as shape
use Rattle.dts_lex.specs.Standing.{HasNoneAt, RunsEnd, StandsAmongCells}
use Rattle.dts_lex.specs.Spelling.{Spells}
use Rattle.dts_lex.specs.Faults.{IsOpenString, IsOpenComment, MayNotStand, IsBrokenString, BeginsNothing, HasToCount, IsMalformed, IsTooWide, Stops, Tells}
use Rattle.dts_lex.specs.Faults as faults
use Rattle.dts_lex.proofs.FailsBy.{FailsBy}
use Rattle.dts_lex.proofs.SpellingLemmas.{malformed}
use Rattle.dts_lex.proofs.CellsLemmas.{first_of}
use Rattle.dts_lex.proofs.WorkedSpelling.{wider, spells_no_letter}
use Rattle.dts_lex.proofs.WorkedStanding.{never_opened}
use Rattle.dts_lex.proofs.WorkedTexts.{token, reading}

-- strings that are never closed, at their last byte and at a backslash
abbrev open_text : List ℕ
open_text = 59 ∷ 34 ∷ codes "a"

string_open : IsOpenString open_text 1
unfolding is_plain
string_open = record { inside = codes "a"; left = []; bytes = refl; stands = shape.plain refl shape.empty; ends = inl refl }

string_open_behind_backslash : IsOpenString (34 ∷ 97 ∷ 92 ∷ []) 0
unfolding is_plain
string_open_behind_backslash = record { inside = codes "a"; left = 92 ∷ []; bytes = refl; stands = shape.plain refl shape.empty; ends = inr refl }

-- a string that is closed, that begins elsewhere, or holds a tab, isn't open
quote_not_inside : (rest : List ℕ) → ¬ IsInside (34 ∷ rest)
unfolding is_plain
quote_not_inside rest (shape.plain plain more) = absurd (false≢true plain)

tab_not_inside : (rest : List ℕ) → ¬ IsInside (9 ∷ rest)
unfolding is_plain
tab_not_inside rest (shape.plain plain more) = absurd (false≢true plain)

drop_first : {b c : ℕ} {xs ys : List ℕ} → b ∷ xs ≡ c ∷ ys → xs ≡ ys
drop_first is = ap (drop 1) is

closed_parts : (inside left : List ℕ) → 34 ∷ [] ≡ inside ++ left → IsInside inside → (left ≡ []) ⊎ (left ≡ 92 ∷ []) → ⊥
closed_parts [] left is stands ends =
    ⊎_elim (λ none. absurd (omega (arith, ap length is, ap length none))) (λ backslash. absurd (omega (arith, ap (λ xs. get_or xs 0 0) (is ∙ backslash)))) ends
closed_parts (x ∷ inside) left is stands ends =
    let same : x ≡ 34 = cc in
    quote_not_inside inside (subst (λ b. IsInside (b ∷ inside)) same stands)

tab_parts : (inside left : List ℕ) → 9 ∷ [] ≡ inside ++ left → IsInside inside → (left ≡ []) ⊎ (left ≡ 92 ∷ []) → ⊥
tab_parts [] left is stands ends =
    ⊎_elim (λ none. absurd (omega (arith, ap length is, ap length none))) (λ backslash. absurd (omega (arith, ap (λ xs. get_or xs 0 0) (is ∙ backslash)))) ends
tab_parts (x ∷ inside) left is stands ends =
    let same : x ≡ 9 = cc in
    tab_not_inside inside (subst (λ b. IsInside (b ∷ inside)) same stands)

no_string_begins : ¬ IsOpenString open_text 0
no_string_begins h = absurd (omega (arith, ap (λ xs. get_or xs 0 0) h.bytes))

string_closed : ¬ IsOpenString (34 ∷ 34 ∷ []) 0
string_closed h = closed_parts h.inside h.left (drop_first h.bytes) h.stands h.ends

string_with_tab : ¬ IsOpenString (34 ∷ 9 ∷ []) 0
string_with_tab h = tab_parts h.inside h.left (drop_first h.bytes) h.stands h.ends

-- an open comment, and a closed one
comment_open : IsOpenComment (codes ";/*/*") 1
comment_open = record { inside = codes "/*"; bytes = refl; no_end = ((λ both. absurd (omega (arith, both.0))), tt) }

comment_closed : ¬ IsOpenComment (codes "/**/") 0
comment_closed h =
    let rest : codes "*/" ≡ h.inside = ap (drop 2) h.bytes in
    let no_end : HoldsNoEnd (codes "*/") = subst HoldsNoEnd (sym rest) h.no_end in
    no_end.0 (refl, refl)

half_closed : IsOpenComment (codes "/*/") 0
half_closed = record { inside = codes "/"; bytes = refl; no_end = tt }

no_comment_begins : ¬ IsOpenComment (codes "//*") 0
no_comment_begins h = absurd (omega (arith, ap (λ xs. get_or xs 1 0) h.bytes))

-- what may not stand in a string: a newline, and a backslash before an r
newline_may_not : MayNotStand (10 ∷ codes "a")
unfolding is_plain
newline_may_not = faults.byte refl (λ is. absurd (omega (arith, is))) (λ is. absurd (omega (arith, is)))

escape_may_not : MayNotStand (92 ∷ codes "r")
unfolding is_escaped
escape_may_not = faults.escape refl

letter_may : ¬ MayNotStand (codes "a")
unfolding is_plain
letter_may (faults.byte plain no_quote no_backslash) = absurd (false≢true (sym plain))

quote_may : ¬ MayNotStand (34 ∷ [])
quote_may (faults.byte plain no_quote no_backslash) = no_quote refl

escape_may : ¬ MayNotStand (92 ∷ codes "n")
unfolding is_escaped
escape_may (faults.byte plain no_quote no_backslash) = no_backslash refl
escape_may (faults.escape unescaped) = absurd (false≢true (sym unescaped))

nothing_may : ¬ MayNotStand []
nothing_may h = elim h [ ]

-- a string that is broken at its fourth byte, which no other place tells
abbrev broken_text : List ℕ
broken_text = 34 ∷ codes "ab" ++ 10 ∷ []

string_broken : IsBrokenString (59 ∷ broken_text) 1 4
unfolding is_plain
string_broken = record { inside = codes "ab"; left = 10 ∷ []; bytes = refl; stands = shape.plain refl (shape.plain refl shape.empty); behind = refl; bad = faults.byte refl (λ is. absurd (omega (arith, is))) (λ is. absurd (omega (arith, is))) }

-- nothing begins at a star, nor at an ampersand before a digit
star_begins_nothing : BeginsNothing (codes "a*") 1
unfolding has is_blank
star_begins_nothing = record { within = omega arith; no_blank = refl; no_word = refl; no_sign = refl; no_string = λ is. absurd (omega (arith, is)); no_path = λ is. absurd (omega (arith, is)); no_ref = λ is. absurd (omega (arith, is)) }

ampersand_begins_nothing : BeginsNothing (codes "&1") 0
unfolding has is_blank is_label_start
ampersand_begins_nothing = record { within = omega arith; no_blank = refl; no_word = refl; no_sign = refl; no_string = λ is. absurd (omega (arith, is)); no_path = λ _ is. absurd (omega (arith, is)); no_ref = λ _. refl }

-- past the text, and at a blank, a word, a sign, a string, a path and a reference, one point alone fails
past_text : FailsBy (1 < length (codes "a")) (BeginsNothing (codes "a") 1)
unfolding has is_blank
past_text = record {
  needs = λ h. h.within;
  suffices = λ within. record { within = within; no_blank = refl; no_word = refl; no_sign = refl; no_string = λ is. absurd (omega (arith, is)); no_path = λ is. absurd (omega (arith, is)); no_ref = λ is. absurd (omega (arith, is)) };
  fails = λ within. absurd (omega (arith, within));
}

blank_begins : FailsBy (is_blank 32 ≡ false) (BeginsNothing (codes " ") 0)
unfolding has is_blank
blank_begins = record {
  needs = λ h. h.no_blank;
  suffices = λ no_blank. record { within = omega arith; no_blank = no_blank; no_word = refl; no_sign = refl; no_string = λ is. absurd (omega (arith, is)); no_path = λ is. absurd (omega (arith, is)); no_ref = λ is. absurd (omega (arith, is)) };
  fails = λ no_blank. absurd (false≢true (sym no_blank));
}

word_begins : FailsBy (has class.Word 97 ≡ false) (BeginsNothing (codes "a") 0)
unfolding has is_blank
word_begins = record {
  needs = λ h. h.no_word;
  suffices = λ no_word. record { within = omega arith; no_blank = refl; no_word = no_word; no_sign = refl; no_string = λ is. absurd (omega (arith, is)); no_path = λ is. absurd (omega (arith, is)); no_ref = λ is. absurd (omega (arith, is)) };
  fails = λ no_word. absurd (false≢true (sym no_word));
}

sign_begins : FailsBy (is_in (codes "{};=:<>[](/") 40 ≡ false) (BeginsNothing (codes "(") 0)
unfolding has is_blank
sign_begins = record {
  needs = λ h. h.no_sign;
  suffices = λ no_sign. record { within = omega arith; no_blank = refl; no_word = refl; no_sign = no_sign; no_string = λ is. absurd (omega (arith, is)); no_path = λ is. absurd (omega (arith, is)); no_ref = λ is. absurd (omega (arith, is)) };
  fails = λ no_sign. absurd (false≢true (sym no_sign));
}

string_begins : FailsBy (slice_index (34 ∷ []) 0 ≢ 34) (BeginsNothing (34 ∷ []) 0)
unfolding has is_blank
string_begins = record {
  needs = λ h. h.no_string;
  suffices = λ no_string. record { within = omega arith; no_blank = refl; no_word = refl; no_sign = refl; no_string = no_string; no_path = λ is. absurd (omega (arith, is)); no_ref = λ is. absurd (omega (arith, is)) };
  fails = λ no_string. no_string refl;
}

path_begins : FailsBy (slice_index (codes "&{") 0 ≡ 38 → slice_index (codes "&{") 1 ≢ 123) (BeginsNothing (codes "&{") 0)
unfolding has is_blank is_label_start
path_begins = record {
  needs = λ h. h.no_path;
  suffices = λ no_path. record { within = omega arith; no_blank = refl; no_word = refl; no_sign = refl; no_string = λ is. absurd (omega (arith, is)); no_path = no_path; no_ref = λ _. refl };
  fails = λ no_path. no_path refl refl;
}

reference_begins : FailsBy (slice_index (codes "&a") 0 ≡ 38 → is_label_start 97 ≡ false) (BeginsNothing (codes "&a") 0)
unfolding has is_blank is_label_start
reference_begins = record {
  needs = λ h. h.no_ref;
  suffices = λ no_ref. record { within = omega arith; no_blank = refl; no_word = refl; no_sign = refl; no_string = λ is. absurd (omega (arith, is)); no_path = λ _ is. absurd (omega (arith, is)); no_ref = no_ref };
  fails = λ no_ref. absurd (false≢true (sym (no_ref refl)));
}

-- the malformed 1a and the number 12 have to count; each of these fails in one point alone
counts : HasToCount (codes "<1a>") (token Sign 0 1 ∷ []) 1 (codes "1a")
unfolding has
counts = record { end = 3; some = omega arith; bytes = refl; run = (refl, (refl, tt)); stops = λ _. refl; digit = refl; cells = record { front = []; opening = token Sign 0 1; since = []; parts = refl; opens = (refl, refl); stays = tt } }

-- a word that begins with a letter
counts_no_letter : FailsBy (is_ascii_digit (slice_index (codes "<a1>") 1) ≡ true) (HasToCount (codes "<a1>") (token Sign 0 1 ∷ []) 1 (codes "a1"))
unfolding has
counts_no_letter = record {
  needs = λ h. h.digit;
  suffices = λ digit. record { end = 3; some = omega arith; bytes = refl; run = (refl, (refl, tt)); stops = λ _. refl; digit = digit; cells = record { front = []; opening = token Sign 0 1; since = []; parts = refl; opens = (refl, refl); stays = tt } };
  fails = λ digit. absurd (false≢true digit);
}

-- one outside cells
counts_no_outside : FailsBy (StandsAmongCells (codes "1a") []) (HasToCount (codes "1a") [] 0 (codes "1a"))
unfolding has
counts_no_outside = record {
  needs = λ h. h.cells;
  suffices = λ cells. record { end = 2; some = omega arith; bytes = refl; run = (refl, (refl, tt)); stops = λ inside. absurd (omega arith); digit = refl; cells = cells };
  fails = never_opened (codes "1a");
}

-- one with a byte that no word has
counts_no_sign : FailsBy (AllOf class.Word (codes "1;")) (HasToCount (codes "<1;>") (token Sign 0 1 ∷ []) 1 (codes "1;"))
unfolding has
counts_no_sign = record {
  needs = λ h. h.run;
  suffices = λ run. record { end = 3; some = omega arith; bytes = refl; run = run; stops = λ _. refl; digit = refl; cells = record { front = []; opening = token Sign 0 1; since = []; parts = refl; opens = (refl, refl); stays = tt } };
  fails = λ run. absurd (false≢true run.1.0);
}

-- one that is cut: it ends where its bytes do, and another byte of words follows
one_taken : (n : ℕ) → take n (codes "1a>") ≡ codes "1" → n ≡ 1
one_taken zero is = absurd (omega (arith, ap length is))
one_taken (suc zero) is = refl
one_taken (suc (suc n)) is = absurd (omega (arith, ap length is))

counts_no_part : FailsBy (HasNoneAt class.Word (codes "<1a>") 2) (HasToCount (codes "<1a>") (token Sign 0 1 ∷ []) 1 (codes "1"))
unfolding has
counts_no_part = record {
  needs = λ h.
      let one : h.end - 1 ≡ 1 = one_taken (h.end - 1) h.bytes in
      let two : h.end ≡ 2 = omega (arith, one) in
      subst (HasNoneAt class.Word (codes "<1a>")) two h.stops;
  suffices = λ stops. record { end = 2; some = omega arith; bytes = refl; run = (refl, tt); stops = stops; digit = refl; cells = record { front = []; opening = token Sign 0 1; since = []; parts = refl; opens = (refl, refl); stays = tt } };
  fails = λ stops. absurd (false≢true (sym (stops (omega arith))));
}

-- no word at all
none_taken : (n : ℕ) → 0 < n → take n (codes "1>") ≡ [] → ⊥
none_taken zero some is = absurd (omega (arith, some))
none_taken (suc n) some is = absurd (omega (arith, ap length is))

counts_no_nothing : ¬ HasToCount (codes "<1>") (token Sign 0 1 ∷ []) 1 []
counts_no_nothing h = none_taken (h.end - 1) (let some = h.some in omega (arith, some)) h.bytes

-- and another word than the one that stands there
counts_no_other : ¬ HasToCount (codes "<1>") (token Sign 0 1 ∷ []) 1 (codes "2")
counts_no_other h = absurd (omega (arith, sym (first_of (codes "<1>") 1 h.end 50 [] h.bytes)))

-- words that have to count: a malformed one, one that counts, and one that is too wide
is_malformed : IsMalformed (codes "<1a>") (token Sign 0 1 ∷ []) 1
is_malformed = (codes "1a", counts, spells_no_letter)

abbrev wide_text : List ℕ
wide_text = codes "<4294967296>"

is_too_wide : IsTooWide wide_text (token Sign 0 1 ∷ []) 1
unfolding has
is_too_wide = (codes "4294967296", 4294967296, record { end = 11; some = omega arith; bytes = refl; run = (refl, (refl, (refl, (refl, (refl, (refl, (refl, (refl, (refl, (refl, tt)))))))))); stops = λ _. refl; digit = refl; cells = record { front = []; opening = token Sign 0 1; since = []; parts = refl; opens = (refl, refl); stays = tt } }, wider, omega arith)

not_malformed : ¬ IsMalformed (codes "1a") [] 0
not_malformed h = never_opened (codes "1a") h.1.cells

not_too_wide : ¬ IsTooWide (codes "4294967296") [] 0
not_too_wide h = never_opened (codes "4294967296") h.2.cells

-- why reading stops, by the fault, each at its place
stops_at_string : Stops open_text (token Sign 0 1 ∷ []) 1 (Unclosed 1)
stops_at_string = (refl, inl string_open)

stops_at_comment : Stops (codes ";/*/*") (token Sign 0 1 ∷ []) 1 (Unclosed 1)
stops_at_comment = (refl, inr comment_open)

stops_at_star : Stops (codes "a*") (token Word 0 1 ∷ []) 1 (BadChar 1)
stops_at_star = inr (refl, inl star_begins_nothing)

stops_at_word : Stops (codes "<1a>") (token Sign 0 1 ∷ []) 1 (BadChar 1)
stops_at_word = inr (refl, inr is_malformed)

stops_in_string : Stops (59 ∷ broken_text) (token Sign 0 1 ∷ []) 1 (BadChar 4)
stops_in_string = inl string_broken

stops_at_number : Stops wide_text (token Sign 0 1 ∷ []) 1 (NumberTooWide 1)
stops_at_number = (refl, is_too_wide)

stops_elsewhere : ¬ Stops wide_text (token Sign 0 1 ∷ []) 1 (NumberTooWide 2)
stops_elsewhere h = absurd (omega (arith, h.0))

string_stops_elsewhere : ¬ Stops open_text (token Sign 0 1 ∷ []) 1 (Unclosed 2)
string_stops_elsewhere h = absurd (omega (arith, h.0))

memory_stops_nothing : (text : List ℕ) (before : List Token) (at : ℕ) → ¬ Stops text before at Memory
memory_stops_nothing text before at h = h

-- what a fault tells of a whole text
tells_star : Tells (codes "a*") (BadChar 1)
unfolding reading
tells_star = record { at = 1; before = token Word 0 1 ∷ []; read = refl; uncut = ((λ _. refl), tt); next = refl; stops = stops_at_star }

-- a text without a quote has no broken string
no_quote_ahead : (text : List ℕ) (at : ℕ) (rest : List ℕ) → AllByRecursion (λ b. b ≢ 34) text → drop at text ≡ 34 ∷ rest → ⊥
no_quote_ahead [] zero rest all is = absurd (omega (arith, ap length is))
no_quote_ahead [] (suc at) rest all is = absurd (omega (arith, ap length is))
no_quote_ahead (b ∷ text) zero rest all is = all.0 (ap (λ xs. get_or xs 0 0) is)
no_quote_ahead (b ∷ text) (suc at) rest all is = no_quote_ahead text at rest all.1 is

-- so a fault that tells of a bad byte there stands where the piece begins
at_its_place : (text : List ℕ) (place : ℕ) (h : Tells text (BadChar place)) → AllByRecursion (λ b. b ≢ 34) text → place ≡ h.at
at_its_place text place h all =
    ⊎_elim (λ broken. absurd (no_quote_ahead text h.at (broken.inside ++ broken.left) all broken.bytes)) (λ here. here.0) h.stops

-- a later fault isn't told, since what stands before it can't be read
later_fault : ¬ Tells (codes "&1*") (BadChar 2)
unfolding reading
later_fault h =
    let place = at_its_place (codes "&1*") 2 h ((λ is. absurd (omega (arith, is))), ((λ is. absurd (omega (arith, is))), ((λ is. absurd (omega (arith, is))), tt))) in
    let read : Err (BadChar 0) ≡ Ok h.before = subst (λ n. lexed (take n (codes "&1*")) ≡ Ok h.before) (sym place) h.read in
    absurd (cc)

-- nor is one in the middle of a word: 8a is malformed too, but the token before it is cut
counts_from_eight : HasToCount (codes "<18a>") (token Sign 0 1 ∷ token Number 1 2 ∷ []) 2 (codes "8a")
unfolding has
counts_from_eight = record { end = 4; some = omega arith; bytes = refl; run = (refl, (refl, tt)); stops = λ _. refl; digit = refl; cells = record { front = []; opening = token Sign 0 1; since = token Number 1 2 ∷ []; parts = refl; opens = (refl, refl); stays = ((λ is. absurd (cc)), tt) } }

spells_no_eight_a : (n : ℕ) → ¬ Spells (codes "8a") n
unfolding reading
spells_no_eight_a n h = malformed (codes "8a") refl n h

inside_a_word : FailsBy (RunsEnd (codes "<18a>") (token Sign 0 1 ∷ token Number 1 2 ∷ [])) (Tells (codes "<18a>") (BadChar 2))
unfolding reading
inside_a_word = record {
  needs = λ h.
      let place = at_its_place (codes "<18a>") 2 h ((λ is. absurd (omega (arith, is))), ((λ is. absurd (omega (arith, is))), ((λ is. absurd (omega (arith, is))), ((λ is. absurd (omega (arith, is))), ((λ is. absurd (omega (arith, is))), tt))))) in
      let read : Ok (token Sign 0 1 ∷ token Number 1 2 ∷ []) ≡ Ok h.before = subst (λ n. lexed (take n (codes "<18a>")) ≡ Ok h.before) (sym place) h.read in
      let same : h.before ≡ token Sign 0 1 ∷ token Number 1 2 ∷ [] = cc in
      subst (RunsEnd (codes "<18a>")) same h.uncut;
  suffices = λ uncut. record { at = 2; before = token Sign 0 1 ∷ token Number 1 2 ∷ []; read = refl; uncut = uncut; next = refl; stops = inr (refl, inr (codes "8a", counts_from_eight, spells_no_eight_a)) };
  fails = λ uncut. absurd (false≢true (sym (uncut.1.0 (omega arith))));
}

-- nor is one in a comment, where a semicolon would be no token
star_in_comment : BeginsNothing (codes "//*") 2
unfolding has is_blank
star_in_comment = record { within = omega arith; no_blank = refl; no_word = refl; no_sign = refl; no_string = λ is. absurd (omega (arith, is)); no_path = λ is. absurd (omega (arith, is)); no_ref = λ is. absurd (omega (arith, is)) }

inside_a_comment : FailsBy (lexed (codes "//;") ≡ Ok (token Sign 2 3 ∷ [])) (Tells (codes "//*") (BadChar 2))
unfolding reading
inside_a_comment = record {
  needs = λ h.
      let place = at_its_place (codes "//*") 2 h ((λ is. absurd (omega (arith, is))), ((λ is. absurd (omega (arith, is))), ((λ is. absurd (omega (arith, is))), tt))) in
      let read : Ok [] ≡ Ok h.before = subst (λ n. lexed (take n (codes "//*")) ≡ Ok h.before) (sym place) h.read in
      let none : h.before ≡ [] = cc in
      let next : lexed (take 2 (codes "//*") ++ codes ";") ≡ Ok (h.before ++ token Sign 2 3 ∷ []) = subst (λ n. lexed (take n (codes "//*") ++ codes ";") ≡ Ok (h.before ++ token Sign n (n + 1) ∷ [])) (sym place) h.next in
      next ∙ ap (λ ts. Ok (ts ++ token Sign 2 3 ∷ [])) none;
  suffices = λ next. record { at = 2; before = []; read = refl; uncut = tt; next = next; stops = inr (refl, inl star_in_comment) };
  fails = λ next. let wrong : Ok [] ≡ Ok (token Sign 2 3 ∷ []) = next in absurd (cc);
}

-- nor a fault of another kind
other_kind : ¬ Tells (codes "a*") (Unclosed 1)
other_kind h =
    ⊎_elim
    (λ string. absurd (omega (arith, ap (λ xs. get_or xs 0 0) (subst (λ n. drop n (codes "a*") ≡ 34 ∷ string.inside ++ string.left) (sym h.stops.0) string.bytes))))
    (λ comment. absurd (omega (arith, ap (λ xs. get_or xs 0 0) (subst (λ n. drop n (codes "a*") ≡ 47 ∷ 42 ∷ comment.inside) (sym h.stops.0) comment.bytes))))
    h.stops.1
