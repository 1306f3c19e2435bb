-- The tokens of a text fit their kinds and cover it.
use Rattle.std.proofs.Common.{◌≡◌, ℕ, zero, suc, ◌+◌, ◌-◌, ◌<◌, ◌≤◌, List, [], ◌∷◌, ◌++◌, ltb, length, take, drop, Some, Result, Ok, Err, refl, sym, ap, ◌∙◌, subst, inl, inr, arith, append_assoc, slice_range, slice_get, IfOk}
use Rattle.std.specs.List.{AllByRecursion}
use Rattle.std.proofs.lemmas.Bool.{cond_both, ltb-true, ltb-false}
use Rattle.std.proofs.lemmas.List.{length_push, get_or_push, drop-drop}
use Rattle.std.proofs.Math.Seq.{take-add}
use Rattle.std.proofs.lemmas.Option.{slice_get-get_or}
use Rattle.dts_lex.specs.declared.fault.LexFault.{LexFault}
use Rattle.dts_lex.specs.declared.token.Token.{Token}
use Rattle.dts_lex.specs.declared.piece.Piece.{Piece}
use Rattle.dts_lex.specs.declared.piece.Piece.TheVariants as piece
use Rattle.dts_lex.specs.Piece.{piece_at}
use Rattle.dts_lex.specs.Lex.{comma_alone, in_cells, behind, lexed_from, lexed, SpansRise}
use Rattle.dts_lex.specs.Shape.{IsComment, IsGap, IsOfKind, KindsFit, GapsBetween, Covers}
use Rattle.dts_lex.specs.Shape as shape
use Rattle.dts_lex.proofs.PieceLemmas.{Within, piece_ends}
use Rattle.dts_lex.proofs.ShapeLemmas.{FitsAt, piece_shape}
use Rattle.dts_lex.proofs.LexLemmas.{SpansRise-wider, SpansRise-push}

-- a gap behind a gap is a gap
IsGap-append : (front back : List ℕ) → IsGap front → IsGap back → IsGap (front ++ back)
IsGap-append _ back shape.empty h = h
IsGap-append _ back (shape.blank b rest is more) h = shape.blank b (rest ++ back) is (IsGap-append rest back more h)
IsGap-append _ back (shape.comment bytes rest is more) h = subst IsGap (sym (append_assoc bytes rest back)) (shape.comment bytes (rest ++ back) is (IsGap-append rest back more h))

-- neighbouring slices make one
slice_range-join : (text : List ℕ) (from at to : ℕ) → from ≤ at → at ≤ to → to ≤ length text → slice_range text from to ≡ slice_range text from at ++ slice_range text at to
slice_range-join text from at to first second inside =
    let sizes : to - from ≡ (at - from) + (to - at) = omega arith in
    let place : from + (at - from) ≡ at = omega arith in
    ap (λ n. take n (drop from text)) sizes
    ∙ take-add (at - from) (to - at) (drop from text)
    ∙ ap (λ xs. slice_range text from at ++ take (to - at) xs) (drop-drop (at - from) from text ∙ ap (λ n. drop n text) place)

-- a gap behind the tokens
GapsBetween-gap : (text : List ℕ) (from at to : ℕ) (ts : List Token) → SpansRise from at ts → at ≤ to → to ≤ length text → GapsBetween text from at ts → IsGap (slice_range text at to) → GapsBetween text from to ts
GapsBetween-gap text from at to [] rise more inside gaps gap = subst IsGap (sym (slice_range-join text from at to rise more inside)) (IsGap-append _ _ gaps gap)
GapsBetween-gap text from at to (t ∷ ts) rise more inside gaps gap = (gaps.0, GapsBetween-gap text t.end at to ts rise.2 more inside gaps.1 gap)

slice_range-none : (text : List ℕ) (at : ℕ) → slice_range text at at ≡ []
slice_range-none text at = let none : at - at ≡ 0 = omega arith in rw none

-- a token behind the tokens
GapsBetween-push : (text : List ℕ) (from : ℕ) (ts : List Token) (t : Token) → GapsBetween text from t.start ts → GapsBetween text from t.end (ts ++ t ∷ [])
GapsBetween-push text from [] t gaps = (gaps, rw slice_range-none shape.empty)
GapsBetween-push text from (u ∷ us) t gaps = (gaps.0, GapsBetween-push text u.end us t gaps.1)

pub AllByRecursion-push : {X : Type 0} (P : X → Type 0) (xs : List X) (x : X) → AllByRecursion P xs → P x → AllByRecursion P (xs ++ x ∷ [])
AllByRecursion-push P [] x all here = (here, tt)
AllByRecursion-push P (y ∷ ys) x all here = (all.0, AllByRecursion-push P ys x all.1 here)

last_of_push : {X : Type 0} (xs : List X) (x : X) → slice_get (xs ++ x ∷ []) (length (xs ++ x ∷ []) - 1) ≡ Some x
last_of_push xs x =
    let len = length_push xs x in
    let last : length (xs ++ x ∷ []) - 1 ≡ length xs = omega (arith, len) in
    rw last (slice_get-get_or (xs ++ x ∷ []) (length xs) x (omega (arith, len)) ∙ ap Some (get_or_push xs x x (length xs) refl))

-- what holds of the tokens before a place
record Before (text : List ℕ) (before : List Token) (at : ℕ) : Type 0 where
  inside : at ≤ length text
  rise : SpansRise 0 at before
  kinds : KindsFit text before
  gaps : GapsBetween text 0 at before

-- and of all of them
pub record Whole (text : List ℕ) (tokens : List Token) : Type 0 where
  pub kinds : KindsFit text tokens
  pub covers : Covers text tokens

module _ (text : List ℕ) where
  before_gap : (before : List Token) (at end : ℕ) → Before text before at → Within at (length text) (piece.Gap end) → IsGap (slice_range text at end) → Before text before end
  before_gap before at end h within gap =
      record { inside = within.1; rise = SpansRise-wider 0 at end before (omega (arith, within.0)) h.rise; kinds = h.kinds; gaps = GapsBetween-gap text 0 at end before h.rise (omega (arith, within.0)) within.1 h.gaps gap }

  before_token : (before : List Token) (t : Token) → Before text before t.start → t.start < t.end → t.end ≤ length text → IsOfKind t.kind (slice_range text t.start t.end) → Before text (before ++ t ∷ []) t.end
  before_token before t h forward within fits =
      record { inside = within; rise = SpansRise-push 0 t.start t.end before t (omega arith) forward (omega arith) h.rise; kinds = AllByRecursion-push _ before t h.kinds fits; gaps = GapsBetween-push text 0 before t h.gaps }

  whole_at_end : (before : List Token) (at : ℕ) → Before text before at → length text ≤ at → Whole text before
  whole_at_end before at h past = record { kinds = h.kinds; covers = record { to = at; gaps = h.gaps; ends = inl (omega (arith, h.inside)) } }

  behind_whole : (others : List Token → ℕ → Result (List Token) LexFault) → (before : List Token) (at : ℕ) → ((found : List Token) (end : ℕ) → at < end → Before text found end → IfOk (others found end) (Whole text)) → (r : Result Piece LexFault) → IfOk r (Within at (length text)) → IfOk r (FitsAt text at) → Before text before at → IfOk (behind others before at r) (Whole text)
  behind_whole others before at more (Ok (piece.Gap end)) within fits h = more before end within.0 (before_gap before at end h within fits)
  behind_whole others before at more (Ok (piece.Token kind end)) within fits h = more _ end within.0 (before_token before (record { kind = kind; start = at; end = end }) h within.0 within.1 fits)
  behind_whole others before at more (Ok (piece.Last kind end)) within fits h =
      let t : Token = record { kind = kind; start = at; end = end } in
      let after = before_token before t h within.0 within.1 fits.0 in
      record { kinds = after.kinds; covers = record { to = end; gaps = after.gaps; ends = inr (t, last_of_push before t, refl, fits.1) } }
  behind_whole others before at more (Err fault) within fits h = tt

  -- the bound runs out only at the end of the text
  lexed_from_whole : (steps : ℕ) (before : List Token) (at : ℕ) → length text ≤ at + steps → Before text before at → IfOk (lexed_from steps text before at) (Whole text)
  unfolding lexed_from
  lexed_from_whole zero before at enough h = whole_at_end before at h (omega arith)
  lexed_from_whole (suc steps) before at enough h =
      cond_both (ltb at (length text)) _ _ (λ (r : Result (List Token) LexFault). IfOk r (Whole text))
      (λ more.
      let inside = ltb-true _ _ more in
      behind_whole (lexed_from steps text) before at
      (λ found end forward so_far. lexed_from_whole steps found end (omega (arith, forward)) so_far)
      (piece_at text (comma_alone text before) (in_cells text before) at) (piece_ends text at inside (comma_alone text before) (in_cells text before)) (piece_shape text at inside (comma_alone text before) (in_cells text before)) h)
      (λ past. whole_at_end before at h (ltb-false _ _ past))

-- the tokens of a text fit their kinds and cover it
pub lexed_whole : (text : List ℕ) (tokens : List Token) → lexed text ≡ Ok tokens → Whole text tokens
unfolding lexed
lexed_whole text tokens is =
    let start : Before text [] 0 = record { inside = omega arith; rise = omega arith; kinds = tt; gaps = rw slice_range-none shape.empty } in
    subst (λ (r : Result (List Token) LexFault). IfOk r (Whole text)) is (lexed_from_whole text (length text) [] 0 (omega arith) start)
