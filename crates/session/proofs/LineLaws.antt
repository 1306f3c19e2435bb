-- A text, one line at a time.
use Rattle.std.proofs.Common.{ℕ, ◌≡◌, ◌≢◌, ◌-◌, ◌<◌, suc, List, [], ◌∷◌, ◌++◌, length, take, get_or, eqb, Bool, not, true, false, All, sym, refl, ap, ◌∙◌, arith, length-append}
use Rattle.std.specs.List.{join_with_byte}
use Rattle.std.specs.Cmp.Lexicographic.{pointwise}
use Rattle.std.proofs.lemmas.Bool.{eqb-true, eqb-false}
use Rattle.std.proofs.lemmas.Bool.Decides.{nat_tests, Decides-eqb}
use Rattle.std.proofs.lemmas.List.Elements.{All-weaker}
use Rattle.std.proofs.lemmas.Slice.Eq.{slice_eq-Decides}
use Rattle.std.proofs.lemmas.List.Splits.{slice_split_none, slice_split_at, length-slice_split, join_with_byte-slice_split}
use Rattle.session.specs.Lines.{pieces, lines_of, unended}
use Rattle.rows.proofs.Separators.{Lacks}

-- all but the last piece, and the last
front : List (List ℕ) → List (List ℕ)
front ps = take (length ps - 1) ps

last : List (List ℕ) → List ℕ
last ps = get_or ps (length ps - 1) []

front-cons : (p q : List ℕ) (ps : List (List ℕ)) → front (p ∷ q ∷ ps) ≡ p ∷ front (q ∷ ps)
unfolding front
front-cons p q ps =
    let more : suc (suc (length ps)) - 1 ≡ suc (length ps) = omega arith in
    let less : suc (length ps) - 1 ≡ length ps = omega arith in
    rw (more, less) refl

last-cons : (p q : List ℕ) (ps : List (List ℕ)) → last (p ∷ q ∷ ps) ≡ last (q ∷ ps)
unfolding last
last-cons p q ps =
    let more : suc (suc (length ps)) - 1 ≡ suc (length ps) = omega arith in
    let less : suc (length ps) - 1 ≡ length ps = omega arith in
    rw (more, less) refl

not_newline : (byte : ℕ) → byte ≢ 10 → eqb byte 10 ≡ false
not_newline byte other = grind (arith, nat_tests)

plain_line : (line : List ℕ) → Lacks 10 line → All (λ b. eqb b 10 ≡ false) line
plain_line line lacks = All-weaker (λ b. b ≢ 10) (λ b. eqb b 10 ≡ false) not_newline line lacks

pieces_next : (line rest : List ℕ) → Lacks 10 line → pieces (line ++ 10 ∷ rest) ≡ line ∷ pieces rest
pieces_next line rest lacks = slice_split_at (λ b. eqb b 10) line 10 rest (plain_line line lacks) refl

some_piece : (ps : List (List ℕ)) → 0 < length ps → (p : List ℕ) × (more : List (List ℕ)) × (ps ≡ p ∷ more)
some_piece [] filled = absurd (omega (arith, filled))
some_piece (p ∷ ps) filled = (p, ps, refl)

pieces_filled : (bytes : List ℕ) → 0 < length (pieces bytes)
pieces_filled bytes = omega (arith, length-slice_split (λ b. eqb b 10) bytes)

-- the first line is taken off
module _ (line rest : List ℕ) (lacks : Lacks 10 line) where
  pub lines_next : lines_of (line ++ 10 ∷ rest) ≡ line ∷ lines_of rest
  unfolding front
  lines_next =
      let some = some_piece (pieces rest) (pieces_filled rest) in
      ap front (pieces_next line rest lacks ∙ ap (λ ps. line ∷ ps) some.2) ∙ front-cons line some.0 some.1 ∙ ap (λ ps. line ∷ front ps) (sym some.2)

  pub unended_next : unended (line ++ 10 ∷ rest) ≡ unended rest
  unfolding last
  unended_next =
      let some = some_piece (pieces rest) (pieces_filled rest) in
      ap last (pieces_next line rest lacks ∙ ap (λ ps. line ∷ ps) some.2) ∙ last-cons line some.0 some.1 ∙ ap last (sym some.2)

-- a text without a newline has no whole line
pub lines_none : (text : List ℕ) → Lacks 10 text → lines_of text ≡ []
unfolding front
lines_none text lacks = ap front (slice_split_none (λ b. eqb b 10) text (plain_line text lacks))

-- where there is no whole line, and nothing stands after the last, the text is empty
one_piece : (ps : List (List ℕ)) → front ps ≡ [] → last ps ≡ [] → join_with_byte 10 ps ≡ []
unfolding front last
one_piece [] none empty = refl
one_piece (p ∷ []) none empty = empty
one_piece (p ∷ q ∷ ps) none empty = let wrong : p ∷ front (q ∷ ps) ≡ [] = sym (front-cons p q ps) ∙ none in cc

pub text_empty : (text : List ℕ) → lines_of text ≡ [] → unended text ≡ [] → text ≡ []
unfolding front last
text_empty text none empty = sym (join_with_byte-slice_split 10 text) ∙ one_piece (pieces text) none empty

empty_list : (xs : List ℕ) → length xs ≡ 0 → xs ≡ []
empty_list [] none = refl
empty_list (x ∷ xs) none = absurd (omega (arith, none))

-- by the test whether a list is empty
pub empty_by : (xs : List ℕ) → true ≡ eqb (length xs) 0 → xs ≡ []
empty_by xs test = empty_list xs (eqb-true (length xs) 0 (sym test))

pub filled_by : (xs : List ℕ) → false ≡ eqb (length xs) 0 → xs ≢ []
filled_by xs test same = eqb-false (length xs) 0 (sym test) (ap length same)

-- a test that was turned round
pub turned : (b c : Bool) → c ≡ not b → not c ≡ b
turned true c is = ap not is
turned false c is = ap not is

-- by the test whether a line is a keyword
module _ (line text keyword : List ℕ) (is : text ≡ keyword) where
  pub is_line : true ≡ pointwise eqb line text → line ≡ keyword
  is_line test = (slice_eq-Decides Decides-eqb line text true test).0 refl ∙ is

  pub is_other : false ≡ pointwise eqb line text → line ≢ keyword
  is_other test same = let wrong = (slice_eq-Decides Decides-eqb line text false test).1 (same ∙ sym is) in absurd cc

-- less is left after a line
pub shorter : (text line rest : List ℕ) → text ≡ line ++ 10 ∷ rest → length rest < length text
shorter text line rest cut = omega (arith, ap length cut, length-append line (10 ∷ rest))

pub not_true : false ≡ true → ⊥
not_true is = cc
