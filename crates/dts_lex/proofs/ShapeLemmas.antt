-- The bytes of each piece, by the definition that found it.
use Rattle.std.proofs.Common.{◌≡◌, ℕ, ◌+◌, ◌-◌, ◌<◌, List, [], ◌∷◌, ◌++◌, Bool, true, false, cond, not, ◌||◌, ◌&&◌, eqb, length, take, drop, Option, Some, None, Result, Ok, Err, refl, sym, ap, ◌∙◌, subst, inl, inr, ⊎_elim, arith, append_assoc, add_assoc, slice_index, slice_range, codes, IfOk, IfSome}
use Rattle.std.specs.List.{AllByRecursion, prefix_len}
use Rattle.std.specs.Char.{is_ascii_digit}
use Rattle.std.specs.Int.{is_in_range}
use Rattle.dts_lex.proofs.ScanLemmas.{run_end_bounds}
use Rattle.std.proofs.Math.Numerals.{one-add}
use Rattle.std.proofs.lemmas.Bool.{cond_both, cases_lt, eqb-true, eqb-false, eq-eqb, false≢true, or_left, or_cases, and_parts, and_from}
use Rattle.std.proofs.lemmas.List.{append-nil, length-take-le, length-drop, drop_more, drop-drop, take_at, take-append-drop, length-append, get_or_past}
use Rattle.std.proofs.lemmas.List.Folds.{length-prefix_len, list_any-append}
use Rattle.std.proofs.lemmas.Result.{IfOk-weaker}
use Rattle.dts_lex.specs.declared.fault.LexFault.{LexFault}
use Rattle.dts_lex.specs.declared.number.NumberFault.{NumberFault}
use Rattle.dts_lex.specs.declared.number.NumberFault.TheVariants.{Malformed, TooWide}
use Rattle.dts_lex.specs.declared.token.Kind.TheVariants as kind
use Rattle.dts_lex.specs.declared.class.Class.{Class}
use Rattle.dts_lex.specs.declared.class.Class.TheVariants as class
use Rattle.dts_lex.specs.declared.piece.Piece.{Piece}
use Rattle.dts_lex.specs.declared.piece.Piece.TheVariants as piece
use Rattle.dts_lex.specs.Bytes.{is_in, is_blank, is_plain, is_escaped, is_sign, is_label_start}
use Rattle.dts_lex.specs.Class.{has}
use Rattle.dts_lex.specs.Number.{number_of}
use Rattle.dts_lex.specs.Scan.{run_end, comment_end, string_end, begins_line}
use Rattle.dts_lex.specs.Piece.{piece_at, slash_at, ref_at, word_at, closed, quoted, counted, is_version, is_preprocessor}
use Rattle.dts_lex.specs.Shape.{AllOf, IsInside, IsOfKind, IsSign, HoldsNoEnd, IsComment, IsGap, is_last_of}
use Rattle.dts_lex.specs.Shape as shape
use Rattle.dts_lex.proofs.PieceLemmas.{byte_inside, IfSome-weaker}

-- the elements of a longest run pass
pub all_prefix : (p : ℕ → Bool) (xs : List ℕ) → AllByRecursion (λ b. p b ≡ true) (take (prefix_len p xs) xs)
all_prefix p [] = tt
all_prefix p (x ∷ xs) =
    elim (p x) as (λ t. p x ≡ t → AllByRecursion (λ b. p b ≡ true) (take (cond t (1 + prefix_len p xs) 0) (x ∷ xs))) [
      | true ↦ λ is. rw one-add (is, all_prefix p xs)
      | false ↦ λ _. tt
    ] refl

-- what stands at a place is a slice there
slice_front : (text : List ℕ) (at end : ℕ) (xs rest : List ℕ) → drop at text ≡ xs ++ rest → end ≡ at + length xs → slice_range text at end ≡ xs
slice_front text at end xs rest front is =
    let size : length xs ≡ end - at = omega (arith, is) in
    rw front (take_at xs rest (end - at) size)

slice_one : (text : List ℕ) (at : ℕ) → at < length text → slice_range text at (at + 1) ≡ slice_index text at ∷ []
slice_one text at inside = slice_front text at (at + 1) (slice_index text at ∷ []) (drop (at + 1) text) (drop_more text at 0 inside) (omega arith)

-- a run is of its class
pub run_slice : (class : Class) (text : List ℕ) (at : ℕ) → AllOf class (slice_range text at (run_end class text at))
unfolding run_end
run_slice class text at =
    let size : at + prefix_len (has class) (drop at text) - at ≡ prefix_len (has class) (drop at text) = omega arith in
    rw size (all_prefix (has class) (drop at text))

-- a run whose first byte is of the class is that byte and a run behind it
pub run_first : (class : Class) (text : List ℕ) (at : ℕ) → at < length text → has class (slice_index text at) ≡ true → (others : List ℕ) × (drop at text ≡ (slice_index text at ∷ others) ++ drop (run_end class text at) text) × (run_end class text at ≡ at + 1 + length others) × AllOf class others
unfolding run_end
run_first class text at inside belongs =
    let rest = drop (at + 1) text in
    let count = prefix_len (has class) rest in
    let front = drop_more text at 0 inside in
    let more : prefix_len (has class) (drop at text) ≡ 1 + count = rw (front, belongs) in
    let end : at + prefix_len (has class) (drop at text) ≡ at + 1 + count = omega (arith, more) in
    let size = length-prefix_len (has class) rest in
    let after : drop (at + prefix_len (has class) (drop at text)) text ≡ drop count rest = rw end (sym (drop-drop count (at + 1) text)) in (
      take count rest,
      front ∙ ap (λ xs. slice_index text at ∷ xs) (sym (take-append-drop count rest)) ∙ ap (λ xs. slice_index text at ∷ (take count rest ++ xs)) (sym after),
      rw size end,
      all_prefix (has class) rest,
    )

-- the inside of a string and its closing quote
string_shape : (quote at : ℕ) (rest : List ℕ) → IfOk (string_end quote at rest) (λ end. (inside : List ℕ) × (after : List ℕ) × (rest ≡ inside ++ 34 ∷ after) × (end ≡ at + length inside + 1) × IsInside inside)
string_shape quote at [] = tt
string_shape quote at (b ∷ []) =
    cond_both (eqb b 34) _ _ (λ (r : Result ℕ LexFault). IfOk r (λ end. (inside : List ℕ) × (after : List ℕ) × (b ∷ [] ≡ inside ++ 34 ∷ after) × (end ≡ at + length inside + 1) × IsInside inside))
    (λ is. ([], [], ap (λ c. c ∷ []) (eqb-true b 34 is), omega arith, shape.empty))
    (λ _. cond_both (eqb b 92 || is_plain b) _ _ (λ (r : Result ℕ LexFault). IfOk r (λ end. (inside : List ℕ) × (after : List ℕ) × (b ∷ [] ≡ inside ++ 34 ∷ after) × (end ≡ at + length inside + 1) × IsInside inside)) (λ _. tt) (λ _. tt))
string_shape quote at (b ∷ c ∷ rest) =
    let P : Result ℕ LexFault → Type 0 = λ r. IfOk r (λ end. (inside : List ℕ) × (after : List ℕ) × (b ∷ c ∷ rest ≡ inside ++ 34 ∷ after) × (end ≡ at + length inside + 1) × IsInside inside) in
    cond_both (eqb b 34) _ _ P
    (λ is. ([], c ∷ rest, ap (λ d. d ∷ c ∷ rest) (eqb-true b 34 is), omega arith, shape.empty))
    (λ _. cond_both (eqb b 92) _ _ P
    (λ slash. cond_both (is_escaped c) _ _ P
    (λ escaped. IfOk-weaker (string_end quote (at + 2) rest) _ _ (λ end h. (92 ∷ c ∷ h.0, h.1, (λ i. eqb-true b 92 slash i ∷ c ∷ h.2 i), omega (arith, h.3), shape.escape escaped h.4)) (string_shape quote (at + 2) rest))
    (λ _. tt))
    (λ _. cond_both (is_plain b) _ _ P
    (λ plain. IfOk-weaker (string_end quote (at + 1) (c ∷ rest)) _ _ (λ end h. (b ∷ h.0, h.1, ap (λ xs. b ∷ xs) h.2, omega (arith, h.3), shape.plain plain h.4)) (string_shape quote (at + 1) (c ∷ rest)))
    (λ _. tt)))

-- a byte before a list without an end keeps it so, unless the two are one
HoldsNoEnd-cons : (b c : ℕ) (rest inside after : List ℕ) → c ∷ rest ≡ inside ++ 42 ∷ 47 ∷ after → (eqb b 42 && eqb c 47) ≡ false → HoldsNoEnd inside → HoldsNoEnd (b ∷ inside)
HoldsNoEnd-cons b c rest [] after is none h = tt
HoldsNoEnd-cons b c rest (d ∷ inside) after is none h =
    let same : c ≡ d = cc in
    ((λ both. false≢true (sym none ∙ and_from (eqb b 42) (eqb c 47) (eq-eqb b 42 both.0) (eq-eqb c 47 (same ∙ both.1)))), h)

-- the inside of a comment and its end
comment_shape : (at : ℕ) (rest : List ℕ) → IfSome (comment_end at rest) (λ end. (inside : List ℕ) × (after : List ℕ) × (rest ≡ inside ++ 42 ∷ 47 ∷ after) × (end ≡ at + length inside + 2) × HoldsNoEnd inside)
comment_shape at [] = tt
comment_shape at (b ∷ []) = tt
comment_shape at (b ∷ c ∷ rest) =
    let P : Option ℕ → Type 0 = λ o. IfSome o (λ end. (inside : List ℕ) × (after : List ℕ) × (b ∷ c ∷ rest ≡ inside ++ 42 ∷ 47 ∷ after) × (end ≡ at + length inside + 2) × HoldsNoEnd inside) in
    cond_both (eqb b 42 && eqb c 47) _ _ P
    (λ both.
    let parts = and_parts _ _ both in
    ([], rest, (λ i. eqb-true b 42 parts.0 i ∷ eqb-true c 47 parts.1 i ∷ rest), omega arith, tt))
    (λ none. IfSome-weaker (comment_end (at + 1) (c ∷ rest)) _ _ (λ end h. (b ∷ h.0, h.1, ap (λ xs. b ∷ xs) h.2, omega (arith, h.3), HoldsNoEnd-cons b c rest h.0 h.1 h.2 none h.4)) (comment_shape (at + 1) (c ∷ rest)))

-- what a piece says of the bytes between its place and its end
abbrev pub FitsAt : List ℕ → ℕ → Piece → Type 0
FitsAt text at (piece.Gap end) = IsGap (slice_range text at end)
FitsAt text at (piece.Token kind end) = IsOfKind kind (slice_range text at end)
FitsAt text at (piece.Last kind end) = IsOfKind kind (slice_range text at end) × (is_last_of kind (take at text) (slice_range text at end) ≡ true)

-- a comment alone is a gap
comment_gap : (bytes : List ℕ) → IsComment bytes → IsGap bytes
comment_gap bytes h = subst IsGap (append-nil bytes) (shape.comment bytes [] h shape.empty)

closed_shape : (text : List ℕ) (at : ℕ) (o : Option ℕ) → IfSome o (λ end. IsGap (slice_range text at end)) → IfOk (closed at o) (FitsAt text at)
closed_shape text at None h = tt
closed_shape text at (Some end) h = h

quoted_shape : (text : List ℕ) (at : ℕ) (r : Result ℕ LexFault) → IfOk r (λ end. IsOfKind kind.Text (slice_range text at end)) → IfOk (quoted r) (FitsAt text at)
quoted_shape text at (Ok end) h = h
quoted_shape text at (Err fault) h = tt

counted_shape : (text : List ℕ) (at end : ℕ) → AllOf class.Word (slice_range text at end) → (r : Result ℕ NumberFault) → number_of (slice_range text at end) ≡ r → IfOk (counted at end r) (FitsAt text at)
counted_shape text at end run (Ok n) is = (run, rw is refl)
counted_shape text at end run (Err Malformed) is = tt
counted_shape text at end run (Err TooWide) is = tt

or_widened : (a b c d : Bool) → ((b || c) || d) ≡ true → (((a || b) || c) || d) ≡ true
or_widened true b c d h = refl
or_widened false b c d h = h

-- what a label begins with it may go on with
pub label_start_goes_on : (b : ℕ) → is_label_start b ≡ true → has class.Label b ≡ true
unfolding is_label_start has
label_start_goes_on b start = or_widened (is_in_range 48 57 b) (is_in_range 65 90 b) (is_in_range 97 122 b) (is_in (codes "_") b) start

-- a single sign or a lone comma is among the signs
sign_among : (b : ℕ) (comma_alone : Bool) → (is_sign b || (eqb b 44 && comma_alone)) ≡ true → is_in (codes "{};=:<>[],/(") b ≡ true
unfolding is_sign
sign_among b comma_alone is =
    ⊎_elim
    (λ sign. list_any-append (λ c. eqb b c) (codes "{};=:<>[]") (codes ",/(") ∙ or_left _ _ sign)
    (λ comma. ap (is_in (codes "{};=:<>[],/(")) (eqb-true b 44 (and_parts _ _ comma).0))
    (or_cases (is_sign b) (eqb b 44 && comma_alone) is)

module _ (text : List ℕ) (at : ℕ) (inside : at < length text) where
  -- a slash, a name and a slash
  pub directive : drop at text ≡ 47 ∷ drop (at + 1) text → slice_index text (run_end class.Directive text (at + 1)) ≡ 47 → IsOfKind kind.Directive (slice_range text at (run_end class.Directive text (at + 1) + 1))
  unfolding run_end
  directive front slash =
      let rest = drop (at + 1) text in
      let count = prefix_len (has class.Directive) rest in
      let close = at + 1 + count in
      let name = take count rest in
      let size = length-prefix_len (has class.Directive) rest in
      let closes = byte_inside text close 47 (omega arith) slash in
      let behind : drop close text ≡ 47 ∷ drop (close + 1) text = drop_more text close 0 closes ∙ ap (λ b. b ∷ drop (close + 1) text) slash in
      let parts : rest ≡ name ++ 47 ∷ drop (close + 1) text = sym (take-append-drop count rest) ∙ ap (λ xs. name ++ xs) (drop-drop count (at + 1) text ∙ behind) in
      let whole : drop at text ≡ (47 ∷ name ++ 47 ∷ []) ++ drop (close + 1) text = front ∙ ap (λ xs. 47 ∷ xs) (parts ∙ sym (append_assoc name (47 ∷ []) (drop (close + 1) text))) in
      (name, slice_front text at (close + 1) (47 ∷ name ++ 47 ∷ []) (drop (close + 1) text) whole (omega (arith, size, length-append name (47 ∷ []))), all_prefix (has class.Directive) rest)

  -- a byte that begins a label stands inside the text
  pub label_inside : is_label_start (slice_index text (at + 1)) ≡ true → at + 1 < length text
  unfolding is_label_start
  label_inside start =
      ⊎_elim (λ more. more) (λ past. absurd (false≢true (sym (ap is_label_start (get_or_past text (at + 1) 0 past)) ∙ start))) (cases_lt (at + 1) (length text))

  abbrev Shaped : Result Piece LexFault → Type 0
  Shaped r = IfOk r (FitsAt text at)

  slash_shape : slice_index text at ≡ 47 → Shaped (slash_at text at)
  unfolding slash_at has
  slash_shape slash =
      let next = slice_index text (at + 1) in
      let close = run_end class.Directive text (at + 1) in
      let front : drop at text ≡ 47 ∷ drop (at + 1) text = drop_more text at 0 inside ∙ ap (λ b. b ∷ drop (at + 1) text) slash in
      cond_both (eqb next 47) _ _ Shaped
      (λ is.
      let second = byte_inside text (at + 1) 47 (omega arith) (eqb-true _ _ is) in
      let run = run_first class.Line text (at + 1) second (ap (λ b. has class.Line b) (eqb-true _ _ is)) in
      let whole : drop at text ≡ (47 ∷ 47 ∷ run.0) ++ drop (run_end class.Line text (at + 1)) text = front ∙ ap (λ xs. 47 ∷ xs) (run.1 ∙ ap (λ b. b ∷ run.0 ++ drop (run_end class.Line text (at + 1)) text) (eqb-true _ _ is)) in
      subst IsGap (sym (slice_front text at (run_end class.Line text (at + 1)) (47 ∷ 47 ∷ run.0) (drop (run_end class.Line text (at + 1)) text) whole (omega (arith, run.2)))) (comment_gap _ (shape.line run.0 run.3)))
      (λ _. cond_both (eqb next 42) _ _ Shaped
      (λ is.
      let star = byte_inside text (at + 1) 42 (omega arith) (eqb-true _ _ is) in
      let second : drop (at + 1) text ≡ 42 ∷ drop (at + 2) text = subst (λ n. drop (at + 1) text ≡ 42 ∷ drop n text) (add_assoc at 1 1) (drop_more text (at + 1) 0 star ∙ ap (λ b. b ∷ drop (at + 1 + 1) text) (eqb-true _ _ is)) in
      closed_shape text at _ (IfSome-weaker (comment_end (at + 2) (drop (at + 2) text)) _ (λ end. IsGap (slice_range text at end))
      (λ end h.
      let whole : drop at text ≡ (47 ∷ 42 ∷ h.0 ++ 42 ∷ 47 ∷ []) ++ h.1 = front ∙ ap (λ xs. 47 ∷ xs) (second ∙ ap (λ xs. 42 ∷ xs) (h.2 ∙ sym (append_assoc h.0 (42 ∷ 47 ∷ []) h.1))) in
      subst IsGap (sym (slice_front text at end (47 ∷ 42 ∷ h.0 ++ 42 ∷ 47 ∷ []) h.1 whole (omega (arith, h.3, length-append h.0 (42 ∷ 47 ∷ []))))) (comment_gap _ (shape.block h.0 h.4)))
      (comment_shape (at + 2) (drop (at + 2) text))))
      (λ _. cond_both (eqb (slice_index text close) 47) _ _ Shaped
      (λ is.
      let named = directive front (eqb-true _ _ is) in
      cond_both (is_version (slice_range text at (close + 1))) _ _ Shaped (λ _. named) (λ other. (named, ap not other)))
      (λ _. inl (47, slice_one text at inside ∙ ap (λ b. b ∷ []) slash, refl))))

  quote_shape : slice_index text at ≡ 34 → Shaped (quoted (string_end at (at + 1) (drop (at + 1) text)))
  quote_shape quote =
      let front : drop at text ≡ 34 ∷ drop (at + 1) text = drop_more text at 0 inside ∙ ap (λ b. b ∷ drop (at + 1) text) quote in
      quoted_shape text at _ (IfOk-weaker (string_end at (at + 1) (drop (at + 1) text)) _ (λ end. IsOfKind kind.Text (slice_range text at end))
      (λ end h.
      let whole : drop at text ≡ (34 ∷ h.0 ++ 34 ∷ []) ++ h.1 = front ∙ ap (λ xs. 34 ∷ xs) (h.2 ∙ sym (append_assoc h.0 (34 ∷ []) h.1)) in
      (h.0, slice_front text at end (34 ∷ h.0 ++ 34 ∷ []) h.1 whole (omega (arith, h.3, length-append h.0 (34 ∷ []))), h.4))
      (string_shape at (at + 1) (drop (at + 1) text)))

  ref_shape : slice_index text at ≡ 38 → Shaped (ref_at text at)
  unfolding ref_at
  ref_shape ampersand =
      let next = slice_index text (at + 1) in
      let front : drop at text ≡ 38 ∷ drop (at + 1) text = drop_more text at 0 inside ∙ ap (λ b. b ∷ drop (at + 1) text) ampersand in
      cond_both (eqb next 123) _ _ Shaped
      (λ is.
      let brace = byte_inside text (at + 1) 123 (omega arith) (eqb-true _ _ is) in
      let whole : drop at text ≡ (38 ∷ 123 ∷ []) ++ drop (at + 1 + 1) text = front ∙ ap (λ xs. 38 ∷ xs) (drop_more text (at + 1) 0 brace ∙ ap (λ b. b ∷ drop (at + 1 + 1) text) (eqb-true _ _ is)) in
      let bytes = slice_front text at (at + 2) (38 ∷ 123 ∷ []) (drop (at + 1 + 1) text) whole (omega arith) in
      (inr bytes, ap (is_last_of kind.Sign (take at text)) bytes))
      (λ _. cond_both (is_label_start next) _ _ Shaped
      (λ start.
      let first = label_inside start in
      let run = run_first class.Label text (at + 1) first (label_start_goes_on next start) in
      let whole : drop at text ≡ (38 ∷ next ∷ run.0) ++ drop (run_end class.Label text (at + 1)) text = front ∙ ap (λ xs. 38 ∷ xs) run.1 in
      (next, run.0, slice_front text at (run_end class.Label text (at + 1)) (38 ∷ next ∷ run.0) (drop (run_end class.Label text (at + 1)) text) whole (omega (arith, run.2)), start, run.3))
      (λ _. tt))

  word_shape : (in_cells : Bool) → Shaped (word_at text in_cells at)
  unfolding word_at
  word_shape in_cells =
      let end = run_end class.Word text at in
      let word = slice_range text at end in
      let run = run_slice class.Word text at in
      let bounds = run_end_bounds class.Word text at (omega arith) in
      cond_both (eqb end at) _ _ Shaped
      (λ _. tt)
      (λ some.
      let more : 0 < length word = omega (arith, bounds.0, bounds.1, eqb-false _ _ some, length-take-le (end - at) (drop at text) (omega (arith, bounds.1, length-drop at text))) in
      cond_both (in_cells && is_ascii_digit (slice_index text at)) _ _ Shaped
      (λ _. counted_shape text at end run (number_of word) refl)
      (λ _. cond_both (is_preprocessor word && begins_line (take at text)) _ _ Shaped
      (λ both. ((more, run), both))
      (λ _. (more, run))))

  pub piece_shape : (comma_alone in_cells : Bool) → Shaped (piece_at text comma_alone in_cells at)
  unfolding piece_at is_sign
  piece_shape comma_alone in_cells =
      let b = slice_index text at in
      let one = slice_one text at inside in
      cond_both (is_blank b) _ _ Shaped (λ is. subst IsGap (sym one) (shape.blank b [] is shape.empty))
      (λ _. cond_both (eqb b 47) _ _ Shaped (λ is. slash_shape (eqb-true b 47 is))
      (λ _. cond_both (eqb b 34) _ _ Shaped (λ is. quote_shape (eqb-true b 34 is))
      (λ _. cond_both (eqb b 38) _ _ Shaped (λ is. ref_shape (eqb-true b 38 is))
      (λ _. cond_both (eqb b 40) _ _ Shaped
      (λ is.
      let bytes : slice_range text at (at + 1) ≡ 40 ∷ [] = one ∙ ap (λ c. c ∷ []) (eqb-true b 40 is) in
      (inl (40, bytes, refl), ap (is_last_of kind.Sign (take at text)) bytes))
      (λ _. cond_both (is_sign b || (eqb b 44 && comma_alone)) _ _ Shaped
      (λ is. inl (b, one, sign_among b comma_alone is))
      (λ _. word_shape in_cells))))))
