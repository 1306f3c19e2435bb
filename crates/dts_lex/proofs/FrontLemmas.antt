-- What begins and ends in the front of a text is the same whatever stands behind it, unless that
-- lengthens it.
use Rattle.std.proofs.Common.{◌≡◌, ◌≢◌, ℕ, ◌+◌, ◌-◌, ◌<◌, ◌≤◌, ◌⊎◌, List, [], ◌∷◌, ◌++◌, Bool, true, false, cond, ◌||◌, ◌&&◌, eqb, length, take, drop, get_or, Option, Some, None, Result, Ok, Err, refl, sym, ap, ◌∙◌, subst, inl, inr, ⊎_elim, arith, length-append, slice_index, slice_range, IfOk, IfSome}
use Rattle.std.specs.List.{prefix_len}
use Rattle.std.specs.Char.{is_ascii_digit}
use Rattle.std.proofs.Math.Seq.{drop-append_seam, get_or-append_right}
use Rattle.std.proofs.lemmas.Bool.{cond_both, cases_lt}
use Rattle.std.proofs.lemmas.List.{length-drop, drop-append-le, take-append-le, get_or_append_left}
use Rattle.std.proofs.lemmas.Result.{IfOk-weaker}
use Rattle.dts_lex.specs.declared.fault.LexFault.{LexFault}
use Rattle.dts_lex.specs.declared.number.NumberFault.{NumberFault}
use Rattle.dts_lex.specs.declared.number.NumberFault.TheVariants.{Malformed, TooWide}
use Rattle.dts_lex.specs.declared.token.Kind.TheVariants as kinds
use Rattle.dts_lex.specs.declared.class.Class.{Class}
use Rattle.dts_lex.specs.declared.class.Class.TheVariants as class
use Rattle.dts_lex.specs.declared.piece.Piece.{Piece}
use Rattle.dts_lex.specs.declared.piece.Piece.TheVariants as piece
use Rattle.dts_lex.specs.Bytes.{is_blank, is_sign, is_label_start, is_plain, is_escaped}
use Rattle.dts_lex.specs.Class.{has}
use Rattle.dts_lex.specs.Number.{number_of}
use Rattle.dts_lex.specs.Scan.{run_end, comment_end, string_end, begins_line}
use Rattle.dts_lex.specs.Piece.{piece_at, slash_at, ref_at, word_at, closed, quoted, counted, is_version, is_preprocessor}
use Rattle.dts_lex.proofs.ScanLemmas.{run_end_bounds}
use Rattle.dts_lex.proofs.PieceLemmas.{end_of, string_ends, comment_ends, IfSome-weaker}
use Rattle.dts_lex.proofs.ShapeLemmas.{run_first, label_inside, label_start_goes_on}

-- runs that end in the front, or that nothing behind it lengthens
prefix_same : (p : ℕ → Bool) (xs ys zs : List ℕ) → prefix_len p (xs ++ ys) ≤ length xs → (prefix_len p ys ≡ 0 → prefix_len p zs ≡ 0) → prefix_len p (xs ++ zs) ≡ prefix_len p (xs ++ ys)
prefix_same p [] ys zs short stops =
    let none : prefix_len p ys ≡ 0 = omega (arith, short) in
    stops none ∙ sym none
prefix_same p (x ∷ xs) ys zs short stops =
    elim (p x) as (λ t. cond t (1 + prefix_len p (xs ++ ys)) 0 ≤ length (x ∷ xs) → cond t (1 + prefix_len p (xs ++ zs)) 0 ≡ cond t (1 + prefix_len p (xs ++ ys)) 0) [
      | true ↦ λ less. ap (λ n. 1 + n) (prefix_same p xs ys zs (omega (arith, less)) stops)
      | false ↦ λ _. refl
    ] short

prefix_either : (p : ℕ → Bool) (xs ys zs : List ℕ) → prefix_len p zs ≡ 0 → (prefix_len p (xs ++ zs) ≡ length xs) ⊎ ((prefix_len p (xs ++ zs) < length xs) × (prefix_len p (xs ++ zs) ≡ prefix_len p (xs ++ ys)))
prefix_either p [] ys zs stops = inl stops
prefix_either p (x ∷ xs) ys zs stops =
    elim (p x) as (λ t. (cond t (1 + prefix_len p (xs ++ zs)) 0 ≡ length (x ∷ xs)) ⊎ ((cond t (1 + prefix_len p (xs ++ zs)) 0 < length (x ∷ xs)) × (cond t (1 + prefix_len p (xs ++ zs)) 0 ≡ cond t (1 + prefix_len p (xs ++ ys)) 0))) [
      | true ↦ ⊎_elim (λ all. inl (omega (arith, all))) (λ part. inr (omega (arith, part.0), ap (λ n. 1 + n) part.1)) (prefix_either p xs ys zs stops)
      | false ↦ inr (omega arith, refl)
    ]

-- a comment that ends in the front
comment_same : (at : ℕ) (xs ys zs : List ℕ) → IfSome (comment_end at (xs ++ ys)) (λ end. end ≤ at + length xs → comment_end at (xs ++ zs) ≡ Some end)
comment_same at [] ys zs = IfSome-weaker (comment_end at ys) _ _ (λ end h short. absurd (omega (arith, h.0, short))) (comment_ends at ys)
comment_same at (x ∷ []) ys zs = IfSome-weaker (comment_end at (x ∷ ys)) _ _ (λ end h short. absurd (omega (arith, h.0, short))) (comment_ends at (x ∷ ys))
comment_same at (x ∷ y ∷ xs) ys zs =
    elim (eqb x 42 && eqb y 47) as (λ t. IfSome (cond t (Some (at + 2)) (comment_end (at + 1) (y ∷ xs ++ ys))) (λ end. end ≤ at + length (x ∷ y ∷ xs) → cond t (Some (at + 2)) (comment_end (at + 1) (y ∷ xs ++ zs)) ≡ Some end)) [
      | true ↦ λ _. refl
      | false ↦ IfSome-weaker (comment_end (at + 1) (y ∷ xs ++ ys)) _ _ (λ end h short. h (omega (arith, short))) (comment_same (at + 1) (y ∷ xs) ys zs)
    ]

-- a string that ends in the front
abbrev StringSame : ℕ → ℕ → List ℕ → Result ℕ LexFault → Result ℕ LexFault → Type 0
StringSame quote at xs old new = IfOk old (λ end. end ≤ at + length xs → new ≡ Ok end)

both : {A : Type 0} (b : Bool) (x y x' y' : A) (Q : A → A → Type 0) → (b ≡ true → Q x x') → (b ≡ false → Q y y') → Q (cond b x y) (cond b x' y')
both true x y x' y' Q then_case else_case = then_case refl
both false x y x' y' Q then_case else_case = else_case refl

closes_at_once : (quote at b : ℕ) (rest : List ℕ) → eqb b 34 ≡ true → string_end quote at (b ∷ rest) ≡ Ok (at + 1)
closes_at_once quote at b [] is = rw is refl
closes_at_once quote at b (c ∷ rest) is = rw is refl

-- or ends later than one byte further
string_late : (quote at b : ℕ) (rest : List ℕ) → eqb b 34 ≡ false → IfOk (string_end quote at (b ∷ rest)) (λ end. at + 1 < end)
string_late quote at b [] other = rw other (cond_both (eqb b 92 || is_plain b) _ _ (λ (r : Result ℕ LexFault). IfOk r (λ end. at + 1 < end)) (λ _. tt) (λ _. tt))
string_late quote at b (c ∷ rest) other =
    let P : Result ℕ LexFault → Type 0 = λ r. IfOk r (λ end. at + 1 < end) in
    rw other (cond_both (eqb b 92) _ _ P
    (λ _. cond_both (is_escaped c) _ _ P (λ _. IfOk-weaker (string_end quote (at + 2) rest) _ _ (λ end h. omega (arith, h.0)) (string_ends quote (at + 2) rest)) (λ _. tt))
    (λ _. cond_both (is_plain b) _ _ P (λ _. IfOk-weaker (string_end quote (at + 1) (c ∷ rest)) _ _ (λ end h. h.0) (string_ends quote (at + 1) (c ∷ rest))) (λ _. tt)))

string_same_last : (quote at x : ℕ) (ys zs : List ℕ) → StringSame quote at (x ∷ []) (string_end quote at (x ∷ ys)) (string_end quote at (x ∷ zs))
string_same_last quote at x ys zs =
    elim (eqb x 34) as (λ t. eqb x 34 ≡ t → StringSame quote at (x ∷ []) (string_end quote at (x ∷ ys)) (string_end quote at (x ∷ zs))) [
      | true ↦ λ is. subst (λ r. StringSame quote at (x ∷ []) r (string_end quote at (x ∷ zs))) (sym (closes_at_once quote at x ys is)) (λ _. closes_at_once quote at x zs is)
      | false ↦ λ other. IfOk-weaker (string_end quote at (x ∷ ys)) _ _ (λ end late short. absurd (omega (arith, late, short))) (string_late quote at x ys other)
    ] refl

string_same : (quote at : ℕ) (xs ys zs : List ℕ) → StringSame quote at xs (string_end quote at (xs ++ ys)) (string_end quote at (xs ++ zs))
string_same quote at [] ys zs = IfOk-weaker (string_end quote at ys) _ _ (λ end h short. absurd (omega (arith, h.0, short))) (string_ends quote at ys)
string_same quote at (x ∷ []) ys zs = string_same_last quote at x ys zs
string_same quote at (x ∷ y ∷ xs) ys zs =
    let Q : Result ℕ LexFault → Result ℕ LexFault → Type 0 = StringSame quote at (x ∷ y ∷ xs) in
    both (eqb x 34) _ _ _ _ Q (λ _ _. refl)
    (λ _. both (eqb x 92) _ _ _ _ Q
    (λ _. both (is_escaped y) _ _ _ _ Q
    (λ _. IfOk-weaker (string_end quote (at + 2) (xs ++ ys)) _ _ (λ end h short. h (omega (arith, short))) (string_same quote (at + 2) xs ys zs))
    (λ _. tt))
    (λ _. both (is_plain x) _ _ _ _ Q
    (λ _. IfOk-weaker (string_end quote (at + 1) (y ∷ xs ++ ys)) _ _ (λ end h short. h (omega (arith, short))) (string_same quote (at + 1) (y ∷ xs) ys zs))
    (λ _. tt)))

-- a word ends with its run
counted_end : (at end : ℕ) (r : Result ℕ NumberFault) → IfOk (counted at end r) (λ p. end_of p ≡ end)
counted_end at end (Ok n) = refl
counted_end at end (Err Malformed) = tt
counted_end at end (Err TooWide) = tt

word_end : (text : List ℕ) (cells : Bool) (at : ℕ) → IfOk (word_at text cells at) (λ p. end_of p ≡ run_end class.Word text at)
unfolding word_at
word_end text cells at =
    let end = run_end class.Word text at in
    let word = slice_range text at end in
    let P : Result Piece LexFault → Type 0 = λ r. IfOk r (λ p. end_of p ≡ end) in
    cond_both (eqb end at) _ _ P (λ _. tt)
    (λ _. cond_both (cells && is_ascii_digit (slice_index text at)) _ _ P (λ _. counted_end at end (number_of word))
    (λ _. cond_both (is_preprocessor word && begins_line (take at text)) _ _ P (λ _. refl) (λ _. refl)))

-- what begins at a place, by its first byte
abbrev pub by_byte : List ℕ → Bool → Bool → ℕ → ℕ → Result Piece LexFault
by_byte text comma_alone in_cells at b =
    cond (is_blank b) (Ok (piece.Gap (at + 1)))
    (cond (eqb b 47) (slash_at text at)
    (cond (eqb b 34) (quoted (string_end at (at + 1) (drop (at + 1) text)))
    (cond (eqb b 38) (ref_at text at)
    (cond (eqb b 40) (Ok (piece.Last kinds.Sign (at + 1)))
    (cond (is_sign b || (eqb b 44 && comma_alone)) (Ok (piece.Token kinds.Sign (at + 1)))
    (word_at text in_cells at))))))

-- what is put behind the front in place of the rest ends each run and each sign there
pub record Parts (back other : List ℕ) : Type 0 where
  pub word : prefix_len (has class.Word) other ≡ 0
  pub label : prefix_len (has class.Label) other ≡ 0
  pub directive : prefix_len (has class.Directive) other ≡ 0
  pub no_slash : eqb (slice_index other 0) 47 ≡ false
  pub no_star : eqb (slice_index other 0) 42 ≡ false
  pub line : prefix_len (has class.Line) back ≢ 0

-- behind this piece others are looked at
abbrev pub IsNotLast : Piece → Type 0
IsNotLast (piece.Gap end) = Unit {0}
IsNotLast (piece.Token kind end) = Unit {0}
IsNotLast (piece.Last kind end) = ⊥

module _ (front back other : List ℕ) (parts : Parts back other) where
  abbrev Same : Result Piece LexFault → Result Piece LexFault → Type 0
  Same old new = IfOk old (λ p. IsNotLast p → end_of p ≤ length front → new ≡ Ok p)

  pub index_same : (i : ℕ) → i < length front → slice_index (front ++ other) i ≡ slice_index (front ++ back) i
  index_same i inside = get_or_append_left front other 0 i inside ∙ sym (get_or_append_left front back 0 i inside)

  index_behind : (rest : List ℕ) (i : ℕ) → i ≡ length front → slice_index (front ++ rest) i ≡ slice_index rest 0
  index_behind rest i is = let none : i - length front ≡ 0 = omega (arith, is) in get_or-append_right front rest i 0 (omega (arith, is)) ∙ ap (λ n. get_or rest n 0) none

  take_same : (n : ℕ) → n ≤ length front → take n (front ++ other) ≡ take n (front ++ back)
  take_same n inside = take-append-le n front other inside ∙ sym (take-append-le n front back inside)

  range_same : (from to : ℕ) → from ≤ to → to ≤ length front → slice_range (front ++ other) from to ≡ slice_range (front ++ back) from to
  range_same from to order inside =
      let rest = drop from front in
      let size : to - from ≤ length rest = omega (arith, order, inside, length-drop from front) in
      ap (take (to - from)) (drop-append-le from front other (omega (arith, order, inside)))
      ∙ take-append-le (to - from) rest other size
      ∙ sym (take-append-le (to - from) rest back size)
      ∙ sym (ap (take (to - from)) (drop-append-le from front back (omega (arith, order, inside))))

  run_same : (class : Class) (at : ℕ) → at ≤ length front → run_end class (front ++ back) at ≤ length front → (prefix_len (has class) back ≡ 0 → prefix_len (has class) other ≡ 0) → run_end class (front ++ other) at ≡ run_end class (front ++ back) at
  unfolding run_end
  run_same class at inside short stops =
      let old = drop-append-le at front back inside in
      let new = drop-append-le at front other inside in
      let size = length-drop at front in
      let less : prefix_len (has class) (drop at front ++ back) ≤ length (drop at front) = omega (arith, size, inside, short, ap (prefix_len (has class)) old) in
      ap (λ xs. at + prefix_len (has class) xs) new ∙ ap (λ n. at + n) (prefix_same (has class) (drop at front) back other less stops) ∙ sym (ap (λ xs. at + prefix_len (has class) xs) old)

  closed_same : (at : ℕ) (old new : Option ℕ) → IfSome old (λ end. end ≤ length front → new ≡ Some end) → Same (closed at old) (closed at new)
  closed_same at None new h = tt
  closed_same at (Some end) new h = λ _ short. ap (closed at) (h short)

  quoted_same : (old new : Result ℕ LexFault) → IfOk old (λ end. end ≤ length front → new ≡ Ok end) → Same (quoted old) (quoted new)
  quoted_same (Err fault) new h = tt
  quoted_same (Ok end) new h = λ _ short. ap quoted (h short)

  run_either : (class : Class) (at : ℕ) → at ≤ length front → prefix_len (has class) other ≡ 0 → (run_end class (front ++ other) at ≡ length front) ⊎ ((run_end class (front ++ other) at < length front) × (run_end class (front ++ other) at ≡ run_end class (front ++ back) at))
  unfolding run_end
  run_either class at inside stops =
      let p : ℕ → Bool = has class in
      let old = ap (prefix_len p) (drop-append-le at front back inside) in
      let new = ap (prefix_len p) (drop-append-le at front other inside) in
      let size = length-drop at front in
      ⊎_elim
      (λ all. inl (omega (arith, all, new, size, inside)))
      (λ part. inr (omega (arith, part.0, new, size, inside), ap (λ n. at + n) (new ∙ part.1 ∙ sym old)))
      (prefix_either p (drop at front) back other stops)

  comment_front : (at : ℕ) → at ≤ length front → IfSome (comment_end at (drop at (front ++ back))) (λ end. end ≤ length front → comment_end at (drop at (front ++ other)) ≡ Some end)
  comment_front at inside =
      rw (drop-append-le at front back inside, drop-append-le at front other inside)
      (IfSome-weaker (comment_end at (drop at front ++ back)) _ _ (λ end h short. h (omega (arith, short, length-drop at front, inside))) (comment_same at (drop at front) back other))

  string_front : (quote at : ℕ) → at ≤ length front → IfOk (string_end quote at (drop at (front ++ back))) (λ end. end ≤ length front → string_end quote at (drop at (front ++ other)) ≡ Ok end)
  string_front quote at inside =
      rw (drop-append-le at front back inside, drop-append-le at front other inside)
      (IfOk-weaker (string_end quote at (drop at front ++ back)) _ _ (λ end h short. h (omega (arith, short, length-drop at front, inside))) (string_same quote at (drop at front) back other))

  closed_late : (at : ℕ) (o : Option ℕ) (new : Result Piece LexFault) → IfSome o (λ end. length front < end) → Same (closed at o) new
  closed_late at None new h = tt
  closed_late at (Some end) new h = λ _ short. absurd (omega (arith, h, short))

  -- a slash that is the last byte of the front
  slash_last : (at : ℕ) → at + 1 ≡ length front → Same (slash_at (front ++ back) at) (slash_at (front ++ other) at)
  unfolding slash_at run_end
  slash_last at last =
      let old = front ++ back in
      let new = front ++ other in
      let next = slice_index old (at + 1) in
      let close = run_end class.Directive old (at + 1) in
      let off : (rest : List ℕ) → drop (at + 1) (front ++ rest) ≡ rest = λ rest. ap (λ n. drop n (front ++ rest)) last ∙ drop-append_seam front rest in
      let first = index_behind other (at + 1) last in
      let slash : eqb (slice_index new (at + 1)) 47 ≡ false = rw first parts.no_slash in
      let star : eqb (slice_index new (at + 1)) 42 ≡ false = rw first parts.no_star in
      let none : prefix_len (has class.Directive) (drop (at + 1) new) ≡ 0 = ap (prefix_len (has class.Directive)) (off other) ∙ parts.directive in
      let stays : at + 1 + prefix_len (has class.Directive) (drop (at + 1) new) ≡ at + 1 = omega (arith, none) in
      let shut : eqb (slice_index new (at + 1 + prefix_len (has class.Directive) (drop (at + 1) new))) 47 ≡ false = ap (λ n. eqb (slice_index new n) 47) stays ∙ slash in
      cond_both (eqb next 47) _ _ (λ r. Same r (slash_at new at))
      (λ _ _ short. absurd (parts.line (sym (ap (prefix_len (has class.Line)) (off back)) ∙ omega (arith, short, last))))
      (λ _. cond_both (eqb next 42) _ _ (λ r. Same r (slash_at new at))
      (λ _. closed_late at (comment_end (at + 2) (drop (at + 2) old)) (slash_at new at) (IfSome-weaker (comment_end (at + 2) (drop (at + 2) old)) _ _ (λ end h. omega (arith, h.0, last)) (comment_ends (at + 2) (drop (at + 2) old))))
      (λ _. cond_both (eqb (slice_index old close) 47) _ _ (λ r. Same r (slash_at new at))
      (λ _. cond_both (is_version (slice_range old at (close + 1))) _ _ (λ r. Same r (slash_at new at))
      (λ _ _ short. absurd (omega (arith, short, last)))
      (λ _ not_last _. absurd not_last))
      (λ _ _ _. rw (slash, star, shut) refl)))

  -- and one behind which the front goes on
  slash_before : (at : ℕ) → at + 1 < length front → Same (slash_at (front ++ back) at) (slash_at (front ++ other) at)
  unfolding slash_at
  slash_before at inside =
      let old = front ++ back in
      let new = front ++ other in
      let next = slice_index old (at + 1) in
      let close = run_end class.Directive old (at + 1) in
      let closing = run_end class.Directive new (at + 1) in
      let first = index_same (at + 1) inside in
      let name = run_end_bounds class.Directive old (at + 1) (omega (arith, inside, length-append front back)) in
      cond_both (eqb next 47) _ _ (λ r. Same r (slash_at new at))
      (λ is _ short. rw (first, is, run_same class.Line (at + 1) (omega (arith, inside)) short (λ none. absurd (parts.line none))) refl)
      (λ no_slash. cond_both (eqb next 42) _ _ (λ r. Same r (slash_at new at))
      (λ is.
      let step : slash_at new at ≡ closed at (comment_end (at + 2) (drop (at + 2) new)) = rw (first, no_slash, is) refl in
      subst (Same (closed at (comment_end (at + 2) (drop (at + 2) old)))) (sym step) (closed_same at _ _ (comment_front (at + 2) (omega (arith, inside)))))
      (λ no_star. cond_both (eqb (slice_index old close) 47) _ _ (λ r. Same r (slash_at new at))
      (λ is. cond_both (is_version (slice_range old at (close + 1))) _ _ (λ r. Same r (slash_at new at))
      (λ version _ short.
      let same : closing ≡ close = run_same class.Directive (at + 1) (omega (arith, inside)) (omega (arith, short)) (λ _. parts.directive) in
      let bytes = range_same at (close + 1) (omega (arith, name.0)) short in
      rw (first, no_slash, no_star, same, index_same close (omega (arith, short)), is, bytes, version) refl)
      (λ _ not_last _. absurd not_last))
      (λ other_byte _ _.
      let shut : eqb (slice_index new closing) 47 ≡ false =
      ⊎_elim
      (λ all. ap (λ b. eqb b 47) (index_behind other closing all) ∙ parts.no_slash)
      (λ part. ap (λ b. eqb b 47) (index_same closing part.0 ∙ ap (slice_index old) part.1) ∙ other_byte)
      (run_either class.Directive (at + 1) (omega (arith, inside)) parts.directive) in
      rw (first, no_slash, no_star, shut) refl)))

  slash_same : (at : ℕ) → at < length front → Same (slash_at (front ++ back) at) (slash_at (front ++ other) at)
  slash_same at inside =
      ⊎_elim (λ before. slash_before at before) (λ past. slash_last at (omega (arith, inside, past))) (cases_lt (at + 1) (length front))

  ref_same : (at : ℕ) → at < length front → Same (ref_at (front ++ back) at) (ref_at (front ++ other) at)
  unfolding ref_at
  ref_same at inside =
      let old = front ++ back in
      let new = front ++ other in
      let next = slice_index old (at + 1) in
      cond_both (eqb next 123) _ _ (λ r. Same r (ref_at new at))
      (λ _ not_last _. absurd not_last)
      (λ no_brace. cond_both (is_label_start next) _ _ (λ r. Same r (ref_at new at))
      (λ start _ short.
      let within = label_inside old at (omega (arith, inside, length-append front back)) start in
      let run = run_first class.Label old (at + 1) within (label_start_goes_on next start) in
      let before : at + 1 < length front = omega (arith, short, run.2) in
      rw (index_same (at + 1) before, no_brace, start, run_same class.Label (at + 1) (omega (arith, before)) short (λ _. parts.label)) refl)
      (λ _. tt))

  same_from : (old new : Result Piece LexFault) (end : ℕ) → IfOk old (λ p. end_of p ≡ end) → (end ≤ length front → new ≡ old) → Same old new
  same_from (Ok p) new end is same = λ _ short. same (omega (arith, is, short))
  same_from (Err fault) new end is same = tt

  word_same : (cells : Bool) (at : ℕ) → at < length front → Same (word_at (front ++ back) cells at) (word_at (front ++ other) cells at)
  unfolding word_at
  word_same cells at inside =
      let old = front ++ back in
      let end = run_end class.Word old at in
      let bounds = run_end_bounds class.Word old at (omega (arith, inside, length-append front back)) in
      same_from (word_at old cells at) (word_at (front ++ other) cells at) end (word_end old cells at)
      (λ short. rw (run_same class.Word at (omega (arith, inside)) short (λ _. parts.word), range_same at end bounds.0 short, index_same at inside, take_same at (omega (arith, inside))) refl)

  -- a piece of the front, behind which others are looked at, is one of each text that begins with it
  pub piece_same : (comma_alone cells : Bool) (at : ℕ) → at < length front → Same (piece_at (front ++ back) comma_alone cells at) (piece_at (front ++ other) comma_alone cells at)
  unfolding piece_at
  piece_same comma_alone cells at inside =
      let old = front ++ back in
      let new = front ++ other in
      let b = slice_index old at in
      subst (Same (piece_at old comma_alone cells at)) (sym (ap (by_byte new comma_alone cells at) (index_same at inside)))
      (both (is_blank b) _ _ _ _ Same (λ _ _ _. refl)
      (λ _. both (eqb b 47) _ _ _ _ Same (λ _. slash_same at inside)
      (λ _. both (eqb b 34) _ _ _ _ Same (λ _. quoted_same (string_end at (at + 1) (drop (at + 1) old)) (string_end at (at + 1) (drop (at + 1) new)) (string_front at (at + 1) (omega (arith, inside))))
      (λ _. both (eqb b 38) _ _ _ _ Same (λ _. ref_same at inside)
      (λ _. both (eqb b 40) _ _ _ _ Same (λ _ not_last _. absurd not_last)
      (λ _. both (is_sign b || (eqb b 44 && comma_alone)) _ _ _ _ Same (λ _ _ _. refl)
      (λ _. word_same cells at inside)))))))
