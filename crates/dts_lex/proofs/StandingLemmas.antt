-- How tokens stand, by the definition that found them.
use Rattle.std.proofs.Common.{◌≡◌, ◌≢◌, ℕ, ◌+◌, ◌<◌, List, [], ◌∷◌, ◌++◌, Bool, true, false, ◌||◌, ◌&&◌, eqb, length, take, drop, Option, Some, None, Result, Ok, Err, refl, sym, ap, ◌∙◌, ⊎_elim, arith, slice_index, slice_range, get_or, codes, IfOk}
use Rattle.std.specs.List.{AllByRecursion, prefix_len}
use Rattle.std.specs.Char.{is_ascii_digit}
use Rattle.std.proofs.Math.Seq.{get_or-append_seam}
use Rattle.std.proofs.lemmas.Bool.{cond_both, eqb-true, eqb-false, false≢true, or_cases, and_parts, and_from}
use Rattle.std.proofs.lemmas.List.{length-drop, get_or-drop, drop_more}
use Rattle.std.proofs.lemmas.List.Sums.{prefix_len_stops}
use Rattle.dts_lex.specs.declared.fault.LexFault.{LexFault}
use Rattle.dts_lex.specs.declared.number.NumberFault.{NumberFault}
use Rattle.dts_lex.specs.declared.number.NumberFault.TheVariants.{Malformed, TooWide}
use Rattle.dts_lex.specs.declared.token.Kind.{Kind}
use Rattle.dts_lex.specs.declared.token.Kind.TheVariants as kinds
use Rattle.dts_lex.specs.declared.class.Class.{Class}
use Rattle.dts_lex.specs.declared.class.Class.TheVariants as class
use Rattle.dts_lex.specs.declared.piece.Piece.{Piece}
use Rattle.dts_lex.specs.declared.piece.Piece.TheVariants as piece
use Rattle.dts_lex.specs.Bytes.{is_in, is_blank, is_sign, is_label_start}
use Rattle.dts_lex.specs.Class.{has}
use Rattle.dts_lex.specs.Number.{number_of}
use Rattle.dts_lex.specs.Scan.{run_end, comment_end, begins_line}
use Rattle.dts_lex.specs.Piece.{piece_at, slash_at, ref_at, word_at, closed, quoted, counted, is_version, is_preprocessor}
use Rattle.dts_lex.specs.Shape.{AllOf}
use Rattle.dts_lex.specs.Standing.{HasNoneAt, FollowsLoneSlash, IsUncut}
use Rattle.dts_lex.proofs.ShapeLemmas.{directive}

-- a run goes as far as it can
pub run_stops : (class : Class) (text : List ℕ) (at : ℕ) → HasNoneAt class text (run_end class text at)
unfolding run_end
run_stops class text at inside =
    let count = prefix_len (has class) (drop at text) in
    let stops = prefix_len_stops (has class) (drop at text) 0 (omega (arith, inside, length-drop at text)) in
    ap (has class) (sym (get_or-drop at text count 0)) ∙ stops

-- a run that another byte ends
run_exact : (p : ℕ → Bool) (name : List ℕ) (b : ℕ) (more : List ℕ) → AllByRecursion (λ c. p c ≡ true) name → p b ≡ false → prefix_len p (name ++ b ∷ more) ≡ length name
run_exact p [] b more all stops = rw stops refl
run_exact p (c ∷ name) b more all stops = let rest = run_exact p name b more all.1 stops in rw (all.0, rest) (omega arith)

-- a directive's name has no slash
no_slash : (name : List ℕ) → AllOf class.Directive name → AllByRecursion (λ b. b ≢ 47) name
unfolding has
no_slash [] all = tt
no_slash (b ∷ name) all = ((λ is. false≢true (sym (ap (has class.Directive) is) ∙ all.0)), no_slash name all.1)

-- a test that fails at each byte of a list fails at a byte of it
among_fails : (p : ℕ → Bool) (bytes : List ℕ) (b : ℕ) → AllByRecursion (λ c. p c ≡ false) bytes → is_in bytes b ≡ true → p b ≡ false
among_fails p [] b all is = absurd (false≢true is)
among_fails p (c ∷ bytes) b all is = ⊎_elim (λ same. ap p (eqb-true b c same) ∙ all.0) (λ more. among_fails p bytes b all.1 more) (or_cases (eqb b c) (is_in bytes b) is)

-- no sign is a digit
sign_no_digit : (b : ℕ) (comma_alone : Bool) → (is_sign b || (eqb b 44 && comma_alone)) ≡ true → is_ascii_digit b ≡ false
unfolding is_sign
sign_no_digit b comma_alone is =
    ⊎_elim
    (λ sign. among_fails is_ascii_digit (codes "{};=:<>[]") b (refl, (refl, (refl, (refl, (refl, (refl, (refl, (refl, (refl, tt))))))))) sign)
    (λ comma. ap is_ascii_digit (eqb-true b 44 (and_parts _ _ comma).0))
    (or_cases (is_sign b) (eqb b 44 && comma_alone) is)

-- what a token that begins at a place says: it isn't cut, and is a number where it begins with a digit
-- among cells
pub record Stands (text : List ℕ) (cells : Bool) (at : ℕ) (kind : Kind) (end : ℕ) : Type 0 where
  pub uncut : IsUncut kind text at end
  pub digit : kind ≡ kinds.Number → is_ascii_digit (slice_index text at) ≡ true
  pub within : kind ≡ kinds.Number → cells ≡ true
  pub only : is_ascii_digit (slice_index text at) ≡ true → cells ≡ true → kind ≡ kinds.Number

-- the same of a piece
abbrev pub StandsAt : List ℕ → Bool → ℕ → Piece → Type 0
StandsAt text cells at (piece.Gap end) = Unit {0}
StandsAt text cells at (piece.Token kind end) = Stands text cells at kind end
StandsAt text cells at (piece.Last kind end) = Stands text cells at kind end

-- a token that is no number, and begins with another byte than a digit
other_token : (text : List ℕ) (cells : Bool) (at b : ℕ) (kind : Kind) (end : ℕ) → slice_index text at ≡ b → is_ascii_digit b ≡ false → (kind ≡ kinds.Number → ⊥) → IsUncut kind text at end → Stands text cells at kind end
other_token text cells at b kind end is no_digit no_number uncut =
    record { uncut = uncut; digit = λ number. absurd (no_number number); within = λ number. absurd (no_number number); only = λ digit _. absurd (false≢true (sym no_digit ∙ ap is_ascii_digit (sym is) ∙ digit)) }

closed_stands : (text : List ℕ) (cells : Bool) (at : ℕ) (o : Option ℕ) → IfOk (closed at o) (StandsAt text cells at)
closed_stands text cells at None = tt
closed_stands text cells at (Some end) = tt

quoted_stands : (text : List ℕ) (cells : Bool) (at : ℕ) (r : Result ℕ LexFault) → slice_index text at ≡ 34 → IfOk (quoted r) (StandsAt text cells at)
quoted_stands text cells at (Ok end) quote = other_token text cells at 34 kinds.Text end quote refl (λ is. absurd (cc)) tt
quoted_stands text cells at (Err fault) quote = tt

counted_stands : (text : List ℕ) (cells : Bool) (at end : ℕ) (r : Result ℕ NumberFault) → HasNoneAt class.Word text end → is_ascii_digit (slice_index text at) ≡ true → cells ≡ true → IfOk (counted at end r) (StandsAt text cells at)
counted_stands text cells at end (Ok n) stops digit within = record { uncut = stops; digit = λ _. digit; within = λ _. within; only = λ _ _. refl }
counted_stands text cells at end (Err Malformed) stops digit within = tt
counted_stands text cells at end (Err TooWide) stops digit within = tt

module _ (text : List ℕ) (cells : Bool) (at : ℕ) (inside : at < length text) where
  abbrev Standing : Result Piece LexFault → Type 0
  Standing r = IfOk r (StandsAt text cells at)

  lone_slash : eqb (slice_index text (at + 1)) 42 ≡ false → eqb (slice_index text (run_end class.Directive text (at + 1))) 47 ≡ false → FollowsLoneSlash (drop (at + 1) text)
  unfolding run_end has
  lone_slash no_star no_close = record {
    no_star = λ is. let next : at + 1 + 0 ≡ at + 1 = omega arith in eqb-false (get_or text (at + 1) 0) 42 no_star (ap (λ i. get_or text i 0) (sym next) ∙ sym (get_or-drop (at + 1) text 0 0) ∙ is);
    no_close = λ name more all is.
        let p : ℕ → Bool = has class.Directive in
        let count : prefix_len p (drop (at + 1) text) ≡ length name = ap (prefix_len p) is ∙ run_exact p name 47 more all refl in
        eqb-false _ _ no_close (sym (get_or-drop (at + 1) text (prefix_len p (drop (at + 1) text)) 0) ∙ rw (count, is) (get_or-append_seam name 47 more 0));
  }

  slash_stands : slice_index text at ≡ 47 → Standing (slash_at text at)
  unfolding slash_at
  slash_stands slash =
      let next = slice_index text (at + 1) in
      let close = run_end class.Directive text (at + 1) in
      cond_both (eqb next 47) _ _ Standing
      (λ _. tt)
      (λ _. cond_both (eqb next 42) _ _ Standing
      (λ _. closed_stands text cells at (comment_end (at + 2) (drop (at + 2) text)))
      (λ no_star. cond_both (eqb (slice_index text close) 47) _ _ Standing
      (λ is.
      let front : drop at text ≡ 47 ∷ drop (at + 1) text = drop_more text at 0 inside ∙ ap (λ b. b ∷ drop (at + 1) text) slash in
      let named = directive text at inside front (eqb-true _ _ is) in
      let uncut : IsUncut kinds.Directive text at (close + 1) = (named.0, named.1, no_slash named.0 named.2) in
      cond_both (is_version (slice_range text at (close + 1))) _ _ Standing
      (λ _. other_token text cells at 47 kinds.Directive (close + 1) slash refl (λ is. absurd (cc)) uncut)
      (λ _. other_token text cells at 47 kinds.Directive (close + 1) slash refl (λ is. absurd (cc)) uncut))
      (λ no_close. other_token text cells at 47 kinds.Sign (at + 1) slash refl (λ is. absurd (cc)) (λ _. lone_slash no_star no_close))))

  -- a sign that is no slash
  sign_stands : (b end : ℕ) → slice_index text at ≡ b → is_ascii_digit b ≡ false → eqb b 47 ≡ false → Stands text cells at kinds.Sign end
  sign_stands b end is no_digit no_slash = other_token text cells at b kinds.Sign end is no_digit (λ is. absurd (cc)) (λ slash. absurd (eqb-false b 47 no_slash (sym is ∙ slash)))

  ref_stands : slice_index text at ≡ 38 → Standing (ref_at text at)
  unfolding ref_at
  ref_stands ampersand =
      let next = slice_index text (at + 1) in
      cond_both (eqb next 123) _ _ Standing
      (λ _. sign_stands 38 (at + 2) ampersand refl refl)
      (λ _. cond_both (is_label_start next) _ _ Standing
      (λ _. other_token text cells at 38 kinds.Ref _ ampersand refl (λ is. absurd (cc)) (run_stops class.Label text (at + 1)))
      (λ _. tt))

  word_stands : Standing (word_at text cells at)
  unfolding word_at
  word_stands =
      let end = run_end class.Word text at in
      let word = slice_range text at end in
      let stops = run_stops class.Word text at in
      cond_both (eqb end at) _ _ Standing
      (λ _. tt)
      (λ _. cond_both (cells && is_ascii_digit (slice_index text at)) _ _ Standing
      (λ both. let parts = and_parts _ _ both in counted_stands text cells at end (number_of word) stops parts.1 parts.0)
      (λ not_both.
      let plain : Stands text cells at kinds.Word end = record { uncut = stops; digit = λ is. absurd (cc); within = λ is. absurd (cc); only = λ digit within. absurd (false≢true (sym not_both ∙ and_from _ _ within digit)) } in
      cond_both (is_preprocessor word && begins_line (take at text)) _ _ Standing (λ _. plain) (λ _. plain)))

  pub piece_stands : (comma_alone : Bool) → Standing (piece_at text comma_alone cells at)
  unfolding piece_at is_sign
  piece_stands comma_alone =
      let b = slice_index text at in
      cond_both (is_blank b) _ _ Standing (λ _. tt)
      (λ _. cond_both (eqb b 47) _ _ Standing (λ is. slash_stands (eqb-true b 47 is))
      (λ no_slash. cond_both (eqb b 34) _ _ Standing (λ is. quoted_stands text cells at _ (eqb-true b 34 is))
      (λ _. cond_both (eqb b 38) _ _ Standing (λ is. ref_stands (eqb-true b 38 is))
      (λ _. cond_both (eqb b 40) _ _ Standing (λ is. sign_stands 40 (at + 1) (eqb-true b 40 is) refl refl)
      (λ _. cond_both (is_sign b || (eqb b 44 && comma_alone)) _ _ Standing
      (λ is. sign_stands b (at + 1) refl (sign_no_digit b comma_alone is) no_slash)
      (λ _. word_stands))))))
