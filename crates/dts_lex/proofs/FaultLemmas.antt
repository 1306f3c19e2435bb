-- Why a piece can't be read, by the definition that found its fault.
use Rattle.std.proofs.Common.{◌≡◌, ◌≢◌, ℕ, ◌+◌, ◌<◌, ◌⊎◌, List, [], ◌∷◌, ◌++◌, Bool, true, false, ◌||◌, ◌&&◌, eqb, length, take, drop, Option, Some, None, Result, Ok, Err, refl, sym, ap, ◌∙◌, subst, inl, inr, ⊎_elim, arith, add_assoc, slice_index, slice_range, codes}
use Rattle.std.specs.Result.{IfErr}
use Rattle.std.specs.Char.{is_ascii_digit}
use Rattle.std.proofs.lemmas.Bool.{cond_both, eqb-true, eqb-false, false≢true, or_cases, or_parts, or_from, and_parts, and_from, eq-eqb}
use Rattle.std.proofs.lemmas.List.{drop_more}
use Rattle.std.proofs.lemmas.List.Folds.{list_any-append}
use Rattle.dts_lex.specs.declared.fault.LexFault.{LexFault}
use Rattle.dts_lex.specs.declared.fault.LexFault.TheVariants.{BadChar, Unclosed, NumberTooWide, Memory}
use Rattle.dts_lex.specs.declared.number.NumberFault.{NumberFault}
use Rattle.dts_lex.specs.declared.number.NumberFault.TheVariants.{Malformed, TooWide}
use Rattle.dts_lex.specs.declared.class.Class.TheVariants as class
use Rattle.dts_lex.specs.declared.piece.Piece.{Piece}
use Rattle.dts_lex.specs.Bytes.{is_in, is_blank, is_sign, is_label_start, is_plain, is_escaped}
use Rattle.dts_lex.specs.Class.{has}
use Rattle.dts_lex.specs.Number.{number_of}
use Rattle.dts_lex.specs.Scan.{run_end, comment_end, string_end, begins_line}
use Rattle.dts_lex.specs.Piece.{piece_at, slash_at, ref_at, word_at, closed, quoted, counted, is_version, is_preprocessor}
use Rattle.dts_lex.specs.Shape.{AllOf, IsInside, HoldsNoEnd}
use Rattle.dts_lex.specs.Shape as shape
use Rattle.dts_lex.specs.Standing.{HasNoneAt}
use Rattle.dts_lex.specs.Faults.{IsOpenString, IsOpenComment, MayNotStand, IsBrokenString, BeginsNothing}
use Rattle.dts_lex.specs.Faults as faults
use Rattle.dts_lex.proofs.ScanLemmas.{run_end_bounds}
use Rattle.dts_lex.proofs.PieceLemmas.{byte_inside}
use Rattle.dts_lex.proofs.ShapeLemmas.{run_slice}
use Rattle.dts_lex.proofs.StandingLemmas.{run_stops}

-- a string that is never closed, from behind its quote
record OpenRest (rest : List ℕ) : Type 0 where
  inside : List ℕ
  left : List ℕ
  bytes : rest ≡ inside ++ left
  stands : IsInside inside
  ends : (left ≡ []) ⊎ (left ≡ 92 ∷ [])

-- or that holds what may not stand there
record BrokenRest (at : ℕ) (rest : List ℕ) (place : ℕ) : Type 0 where
  inside : List ℕ
  left : List ℕ
  bytes : rest ≡ inside ++ left
  stands : IsInside inside
  behind : place ≡ at + length inside
  bad : MayNotStand left

abbrev StringFault : ℕ → ℕ → List ℕ → LexFault → Type 0
StringFault quote at rest (Unclosed place) = (place ≡ quote) × OpenRest rest
StringFault quote at rest (BadChar place) = BrokenRest at rest place
StringFault quote at rest (NumberTooWide place) = ⊥
StringFault quote at rest Memory = ⊥

-- the same from a byte, or an escape, further ahead
plain_before : (quote at b : ℕ) (rest : List ℕ) (fault : LexFault) → is_plain b ≡ true → StringFault quote (at + 1) rest fault → StringFault quote at (b ∷ rest) fault
plain_before quote at b rest (Unclosed place) plain h = (h.0, record { inside = b ∷ h.1.inside; left = h.1.left; bytes = ap (λ xs. b ∷ xs) h.1.bytes; stands = shape.plain plain h.1.stands; ends = h.1.ends })
plain_before quote at b rest (BadChar place) plain h = record { inside = b ∷ h.inside; left = h.left; bytes = ap (λ xs. b ∷ xs) h.bytes; stands = shape.plain plain h.stands; behind = omega (arith, h.behind); bad = h.bad }
plain_before quote at b rest (NumberTooWide place) plain h = absurd h
plain_before quote at b rest Memory plain h = absurd h

escape_before : (quote at b c : ℕ) (rest : List ℕ) (fault : LexFault) → b ≡ 92 → is_escaped c ≡ true → StringFault quote (at + 2) rest fault → StringFault quote at (b ∷ c ∷ rest) fault
escape_before quote at b c rest (Unclosed place) slash escaped h = (h.0, record { inside = 92 ∷ c ∷ h.1.inside; left = h.1.left; bytes = λ i. slash i ∷ c ∷ h.1.bytes i; stands = shape.escape escaped h.1.stands; ends = h.1.ends })
escape_before quote at b c rest (BadChar place) slash escaped h = record { inside = 92 ∷ c ∷ h.inside; left = h.left; bytes = λ i. slash i ∷ c ∷ h.bytes i; stands = shape.escape escaped h.stands; behind = omega (arith, h.behind); bad = h.bad }
escape_before quote at b c rest (NumberTooWide place) slash escaped h = absurd h
escape_before quote at b c rest Memory slash escaped h = absurd h

IfErr-weaker : {X : Type 0} (r : Result X LexFault) (P Q : LexFault → Type 0) → ((fault : LexFault) → P fault → Q fault) → IfErr r P → IfErr r Q
IfErr-weaker (Ok x) P Q weaker h = tt
IfErr-weaker (Err fault) P Q weaker h = weaker fault h

broken_byte : (at b : ℕ) (rest : List ℕ) → eqb b 34 ≡ false → eqb b 92 ≡ false → is_plain b ≡ false → BrokenRest at (b ∷ rest) at
broken_byte at b rest no_quote no_slash other = record { inside = []; left = b ∷ rest; bytes = refl; stands = shape.empty; behind = omega arith; bad = faults.byte other (eqb-false b 34 no_quote) (eqb-false b 92 no_slash) }

-- the text ends behind one more byte
last_byte : (quote at b : ℕ) → IfErr (string_end quote at (b ∷ [])) (StringFault quote at (b ∷ []))
last_byte quote at b =
    let P : Result ℕ LexFault → Type 0 = λ r. IfErr r (StringFault quote at (b ∷ [])) in
    cond_both (eqb b 34) _ _ P (λ _. tt)
    (λ no_quote. cond_both (eqb b 92 || is_plain b) _ _ P
    (λ goes_on. ⊎_elim
    (λ slash. (refl, record { inside = []; left = 92 ∷ []; bytes = ap (λ c. c ∷ []) (eqb-true b 92 slash); stands = shape.empty; ends = inr refl }))
    (λ plain. (refl, record { inside = b ∷ []; left = []; bytes = refl; stands = shape.plain plain shape.empty; ends = inl refl }))
    (or_cases (eqb b 92) (is_plain b) goes_on))
    (λ other. let parts = or_parts (eqb b 92) (is_plain b) other in broken_byte at b [] no_quote parts.0 parts.1))

string_fault : (quote at : ℕ) (rest : List ℕ) → IfErr (string_end quote at rest) (StringFault quote at rest)
string_fault quote at [] = (refl, record { inside = []; left = []; bytes = refl; stands = shape.empty; ends = inl refl })
string_fault quote at (b ∷ []) = last_byte quote at b
string_fault quote at (b ∷ c ∷ rest) =
    let P : Result ℕ LexFault → Type 0 = λ r. IfErr r (StringFault quote at (b ∷ c ∷ rest)) in
    cond_both (eqb b 34) _ _ P (λ _. tt)
    (λ no_quote. cond_both (eqb b 92) _ _ P
    (λ slash. cond_both (is_escaped c) _ _ P
    (λ escaped. IfErr-weaker (string_end quote (at + 2) rest) _ _ (λ fault h. escape_before quote at b c rest fault (eqb-true b 92 slash) escaped h) (string_fault quote (at + 2) rest))
    (λ unescaped. record { inside = []; left = 92 ∷ c ∷ rest; bytes = ap (λ d. d ∷ c ∷ rest) (eqb-true b 92 slash); stands = shape.empty; behind = omega arith; bad = faults.escape unescaped }))
    (λ no_slash. cond_both (is_plain b) _ _ P
    (λ plain. IfErr-weaker (string_end quote (at + 1) (c ∷ rest)) _ _ (λ fault h. plain_before quote at b (c ∷ rest) fault plain h) (string_fault quote (at + 1) (c ∷ rest)))
    (λ other. broken_byte at b (c ∷ rest) no_quote no_slash other)))

-- a comment without an end
abbrev IfNone : {X : Type 0} → Option X → Type 0 → Type 0
IfNone None P = P
IfNone (Some x) P = Unit {0}

IfNone-weaker : {X : Type 0} (o : Option X) (P Q : Type 0) → (P → Q) → IfNone o P → IfNone o Q
IfNone-weaker None P Q weaker h = weaker h
IfNone-weaker (Some x) P Q weaker h = tt

comment_fault : (at : ℕ) (rest : List ℕ) → IfNone (comment_end at rest) (HoldsNoEnd rest)
comment_fault at [] = tt
comment_fault at (b ∷ []) = tt
comment_fault at (b ∷ c ∷ rest) =
    cond_both (eqb b 42 && eqb c 47) _ _ (λ (o : Option ℕ). IfNone o (HoldsNoEnd (b ∷ c ∷ rest)))
    (λ _. tt)
    (λ none. IfNone-weaker (comment_end (at + 1) (c ∷ rest)) _ _ (λ h. ((λ both. absurd (false≢true (sym none ∙ and_from (eqb b 42) (eqb c 47) (eq-eqb b 42 both.0) (eq-eqb c 47 both.1)))), h)) (comment_fault (at + 1) (c ∷ rest)))

-- what a word says that has to be a number, and is none
pub record Uncounted (text : List ℕ) (cells : Bool) (at : ℕ) (why : NumberFault) : Type 0 where
  pub end : ℕ
  pub some : at < end
  pub run : AllOf class.Word (slice_range text at end)
  pub stops : HasNoneAt class.Word text end
  pub digit : is_ascii_digit (slice_index text at) ≡ true
  pub within : cells ≡ true
  pub number : number_of (slice_range text at end) ≡ Err why

-- why nothing can be read at a place, by the fault
abbrev pub StopsAt : List ℕ → Bool → ℕ → LexFault → Type 0
StopsAt text cells at (Unclosed place) = (place ≡ at) × (IsOpenString text at ⊎ IsOpenComment text at)
StopsAt text cells at (BadChar place) = IsBrokenString text at place ⊎ ((place ≡ at) × (BeginsNothing text at ⊎ Uncounted text cells at Malformed))
StopsAt text cells at (NumberTooWide place) = (place ≡ at) × Uncounted text cells at TooWide
StopsAt text cells at Memory = ⊥

string_stops : (text : List ℕ) (cells : Bool) (at : ℕ) (fault : LexFault) → drop at text ≡ 34 ∷ drop (at + 1) text → StringFault at (at + 1) (drop (at + 1) text) fault → StopsAt text cells at fault
string_stops text cells at (Unclosed place) front h = (h.0, inl (record { inside = h.1.inside; left = h.1.left; bytes = front ∙ ap (λ xs. 34 ∷ xs) h.1.bytes; stands = h.1.stands; ends = h.1.ends }))
string_stops text cells at (BadChar place) front h = inl (record { inside = h.inside; left = h.left; bytes = front ∙ ap (λ xs. 34 ∷ xs) h.bytes; stands = h.stands; behind = h.behind; bad = h.bad })
string_stops text cells at (NumberTooWide place) front h = absurd h
string_stops text cells at Memory front h = absurd h

quoted_stops : (text : List ℕ) (cells : Bool) (at : ℕ) (r : Result ℕ LexFault) → IfErr r (StopsAt text cells at) → IfErr (quoted r) (StopsAt text cells at)
quoted_stops text cells at (Ok end) h = tt
quoted_stops text cells at (Err fault) h = h

closed_stops : (text : List ℕ) (cells : Bool) (at : ℕ) (o : Option ℕ) → IfNone o (IsOpenComment text at) → IfErr (closed at o) (StopsAt text cells at)
closed_stops text cells at None h = (refl, inr h)
closed_stops text cells at (Some end) h = tt

counted_stops : (text : List ℕ) (cells : Bool) (at end : ℕ) (r : Result ℕ NumberFault) → ((why : NumberFault) → r ≡ Err why → Uncounted text cells at why) → IfErr (counted at end r) (StopsAt text cells at)
counted_stops text cells at end (Ok n) h = tt
counted_stops text cells at end (Err Malformed) h = inr (refl, inr (h Malformed refl))
counted_stops text cells at end (Err TooWide) h = (refl, h TooWide refl)

module _ (text : List ℕ) (cells : Bool) (at : ℕ) (inside : at < length text) where
  abbrev Stopping : Result Piece LexFault → Type 0
  Stopping r = IfErr r (StopsAt text cells at)

  slash_stops : slice_index text at ≡ 47 → Stopping (slash_at text at)
  unfolding slash_at
  slash_stops slash =
      let next = slice_index text (at + 1) in
      let close = run_end class.Directive text (at + 1) in
      let front : drop at text ≡ 47 ∷ drop (at + 1) text = drop_more text at 0 inside ∙ ap (λ b. b ∷ drop (at + 1) text) slash in
      cond_both (eqb next 47) _ _ Stopping (λ _. tt)
      (λ _. cond_both (eqb next 42) _ _ Stopping
      (λ is.
      let star = byte_inside text (at + 1) 42 (omega arith) (eqb-true _ _ is) in
      let second : drop (at + 1) text ≡ 42 ∷ drop (at + 2) text = subst (λ n. drop (at + 1) text ≡ 42 ∷ drop n text) (add_assoc at 1 1) (drop_more text (at + 1) 0 star ∙ ap (λ b. b ∷ drop (at + 1 + 1) text) (eqb-true _ _ is)) in
      closed_stops text cells at _ (IfNone-weaker (comment_end (at + 2) (drop (at + 2) text)) _ _ (λ h. record { inside = drop (at + 2) text; bytes = front ∙ ap (λ xs. 47 ∷ xs) second; no_end = h }) (comment_fault (at + 2) (drop (at + 2) text))))
      (λ _. cond_both (eqb (slice_index text close) 47) _ _ Stopping
      (λ _. cond_both (is_version (slice_range text at (close + 1))) _ _ Stopping (λ _. tt) (λ _. tt))
      (λ _. tt)))

  quote_stops : slice_index text at ≡ 34 → Stopping (quoted (string_end at (at + 1) (drop (at + 1) text)))
  quote_stops quote =
      let front : drop at text ≡ 34 ∷ drop (at + 1) text = drop_more text at 0 inside ∙ ap (λ b. b ∷ drop (at + 1) text) quote in
      quoted_stops text cells at (string_end at (at + 1) (drop (at + 1) text)) (IfErr-weaker (string_end at (at + 1) (drop (at + 1) text)) _ _ (λ fault h. string_stops text cells at fault front h) (string_fault at (at + 1) (drop (at + 1) text)))

  ref_stops : slice_index text at ≡ 38 → Stopping (ref_at text at)
  unfolding ref_at is_blank has
  ref_stops ampersand =
      let next = slice_index text (at + 1) in
      cond_both (eqb next 123) _ _ Stopping (λ _. tt)
      (λ no_brace. cond_both (is_label_start next) _ _ Stopping (λ _. tt)
      (λ no_label. inr (
        refl,
        inl (record {
          within = inside;
          no_blank = rw ampersand refl;
          no_word = rw ampersand refl;
          no_sign = rw ampersand refl;
          no_string = λ quote. absurd (omega (arith, sym ampersand ∙ quote));
          no_path = λ _. eqb-false next 123 no_brace;
          no_ref = λ _. no_label;
        }),
      )))

  word_stops : is_blank (slice_index text at) ≡ false → is_in (codes "{};=:<>[](/") (slice_index text at) ≡ false → slice_index text at ≢ 34 → slice_index text at ≢ 38 → Stopping (word_at text cells at)
  unfolding word_at
  word_stops no_blank no_sign no_quote no_ampersand =
      let end = run_end class.Word text at in
      let word = slice_range text at end in
      let bounds = run_end_bounds class.Word text at (omega arith) in
      cond_both (eqb end at) _ _ Stopping
      (λ none. inr (
        refl,
        inl (record {
          within = inside;
          no_blank = no_blank;
          no_word = subst (λ n. has class.Word (slice_index text n) ≡ false) (eqb-true end at none) (run_stops class.Word text at (omega (arith, eqb-true end at none)));
          no_sign = no_sign;
          no_string = no_quote;
          no_path = λ is. absurd (no_ampersand is);
          no_ref = λ is. absurd (no_ampersand is);
        }),
      ))
      (λ some. cond_both (cells && is_ascii_digit (slice_index text at)) _ _ Stopping
      (λ both.
      let parts = and_parts _ _ both in
      counted_stops text cells at end (number_of word) (λ why is. record { end = end; some = omega (arith, bounds.0, eqb-false end at some); run = run_slice class.Word text at; stops = run_stops class.Word text at; digit = parts.1; within = parts.0; number = is }))
      (λ _. cond_both (is_preprocessor word && begins_line (take at text)) _ _ Stopping (λ _. tt) (λ _. tt)))

  pub piece_stops : (comma_alone : Bool) → Stopping (piece_at text comma_alone cells at)
  unfolding piece_at is_sign
  piece_stops comma_alone =
      let b = slice_index text at in
      cond_both (is_blank b) _ _ Stopping (λ _. tt)
      (λ no_blank. cond_both (eqb b 47) _ _ Stopping (λ is. slash_stops (eqb-true b 47 is))
      (λ no_slash. cond_both (eqb b 34) _ _ Stopping (λ is. quote_stops (eqb-true b 34 is))
      (λ no_quote. cond_both (eqb b 38) _ _ Stopping (λ is. ref_stops (eqb-true b 38 is))
      (λ no_ampersand. cond_both (eqb b 40) _ _ Stopping (λ _. tt)
      (λ no_paren. cond_both (is_sign b || (eqb b 44 && comma_alone)) _ _ Stopping (λ _. tt)
      (λ no_sign.
      let signs = or_parts (is_sign b) (eqb b 44 && comma_alone) no_sign in
      let others : is_in (codes "(/") b ≡ false = or_from (eqb b 40) (is_in (codes "/") b) no_paren (or_from (eqb b 47) false no_slash refl) in
      word_stops no_blank (list_any-append (λ c. eqb b c) (codes "{};=:<>[]") (codes "(/") ∙ or_from (is_sign b) (is_in (codes "(/") b) signs.0 others) (eqb-false b 34 no_quote) (eqb-false b 38 no_ampersand)))))))
