-- Where a piece ends: behind its start, and inside the text.
use Rattle.std.proofs.Common.{◌≡◌, ℕ, ◌+◌, ◌<◌, ◌≤◌, List, [], ◌∷◌, Bool, ◌||◌, ◌&&◌, eqb, length, drop, Option, Some, None, Result, Ok, Err, arith, slice_index, slice_range, take, IfOk, IfSome, ⊎_elim, sym, ◌∙◌, subst}
use Rattle.std.proofs.lemmas.Bool.{cases_lt, cond_both, eqb-false, eqb-true}
use Rattle.std.proofs.lemmas.List.{length-drop, get_or_past}
use Rattle.std.proofs.lemmas.Result.{IfOk-weaker}
use Rattle.std.specs.Char.{is_ascii_digit}
use Rattle.dts_lex.specs.declared.fault.LexFault.{LexFault}
use Rattle.dts_lex.specs.declared.number.NumberFault.{NumberFault}
use Rattle.dts_lex.specs.declared.number.NumberFault.TheVariants.{Malformed, TooWide}
use Rattle.dts_lex.specs.declared.piece.Piece.{Piece}
use Rattle.dts_lex.specs.declared.piece.Piece.TheVariants as piece
use Rattle.dts_lex.specs.declared.class.Class.TheVariants as class
use Rattle.dts_lex.specs.Bytes.{is_blank, is_plain, is_escaped, is_sign, is_label_start}
use Rattle.dts_lex.specs.Number.{number_of}
use Rattle.dts_lex.specs.Scan.{run_end, comment_end, string_end, begins_line}
use Rattle.dts_lex.specs.Piece.{piece_at, slash_at, ref_at, word_at, closed, quoted, counted, is_version, is_preprocessor}
use Rattle.dts_lex.proofs.ScanLemmas.{run_end_bounds}

pub IfSome-weaker : {X : Type 0} (o : Option X) (P Q : X → Type 0) → ((x : X) → P x → Q x) → IfSome o P → IfSome o Q
IfSome-weaker None P Q weaker h = tt
IfSome-weaker (Some x) P Q weaker h = weaker x h

-- a string ends behind its quote
pub string_ends : (quote at : ℕ) (rest : List ℕ) → IfOk (string_end quote at rest) (λ end. (at < end) × (end ≤ at + length rest))
string_ends quote at [] = tt
string_ends quote at (b ∷ []) =
    cond_both (eqb b 34) _ _ (λ (r : Result ℕ LexFault). IfOk r (λ end. (at < end) × (end ≤ at + 1)))
    (λ _. (omega arith, omega arith))
    (λ _. cond_both (eqb b 92 || is_plain b) _ _ (λ (r : Result ℕ LexFault). IfOk r (λ end. (at < end) × (end ≤ at + 1))) (λ _. tt) (λ _. tt))
string_ends quote at (b ∷ c ∷ rest) =
    let P : Result ℕ LexFault → Type 0 = λ r. IfOk r (λ end. (at < end) × (end ≤ at + length (b ∷ c ∷ rest))) in
    cond_both (eqb b 34) _ _ P
    (λ _. (omega arith, omega arith))
    (λ _. cond_both (eqb b 92) _ _ P
    (λ _. cond_both (is_escaped c) _ _ P (λ _. IfOk-weaker (string_end quote (at + 2) rest) _ _ (λ end h. (omega (arith, h.0), omega (arith, h.1))) (string_ends quote (at + 2) rest)) (λ _. tt))
    (λ _. cond_both (is_plain b) _ _ P (λ _. IfOk-weaker (string_end quote (at + 1) (c ∷ rest)) _ _ (λ end h. (omega (arith, h.0), omega (arith, h.1))) (string_ends quote (at + 1) (c ∷ rest))) (λ _. tt)))

-- a comment ends behind its last two bytes
pub comment_ends : (at : ℕ) (rest : List ℕ) → IfSome (comment_end at rest) (λ end. (at + 1 < end) × (end ≤ at + length rest))
comment_ends at [] = tt
comment_ends at (b ∷ []) = tt
comment_ends at (b ∷ c ∷ rest) =
    let P : Option ℕ → Type 0 = λ o. IfSome o (λ end. (at + 1 < end) × (end ≤ at + length (b ∷ c ∷ rest))) in
    cond_both (eqb b 42 && eqb c 47) _ _ P
    (λ _. (omega arith, omega arith))
    (λ _. IfSome-weaker (comment_end (at + 1) (c ∷ rest)) _ _ (λ end h. (omega (arith, h.0), omega (arith, h.1))) (comment_ends (at + 1) (c ∷ rest)))

-- the place behind a piece
abbrev pub end_of : Piece → ℕ
end_of (piece.Gap end) = end
end_of (piece.Token kind end) = end
end_of (piece.Last kind end) = end

-- a piece of a text of this size is not empty, and ends inside it
abbrev pub Within : ℕ → ℕ → Piece → Type 0
Within at size p = (at < end_of p) × (end_of p ≤ size)

closed_ends : (at size : ℕ) (o : Option ℕ) → IfSome o (λ end. (at + 2 < end) × (end ≤ size)) → IfOk (closed at o) (Within at size)
closed_ends at size None h = tt
closed_ends at size (Some end) h = (omega (arith, h.0), h.1)

quoted_ends : (at size : ℕ) (r : Result ℕ LexFault) → IfOk r (λ end. (at + 1 < end) × (end ≤ size)) → IfOk (quoted r) (Within at size)
quoted_ends at size (Err fault) h = tt
quoted_ends at size (Ok end) h = (omega (arith, h.0), h.1)

counted_ends : (at end size : ℕ) (r : Result ℕ NumberFault) → at < end → end ≤ size → IfOk (counted at end r) (Within at size)
counted_ends at end size (Ok n) forward within = (forward, within)
counted_ends at end size (Err Malformed) forward within = tt
counted_ends at end size (Err TooWide) forward within = tt

-- a byte that is not 0 stands inside the text
pub byte_inside : (text : List ℕ) (at b : ℕ) → 0 < b → slice_index text at ≡ b → at < length text
byte_inside text at b some is =
    ⊎_elim (λ inside. inside) (λ past. absurd (omega (arith, some, sym is ∙ get_or_past text at 0 past))) (cases_lt at (length text))

module _ (text : List ℕ) (at : ℕ) (inside : at < length text) where
  abbrev Ends : Result Piece LexFault → Type 0
  Ends r = IfOk r (Within at (length text))

  slash_ends : Ends (slash_at text at)
  unfolding slash_at
  slash_ends =
      let next = slice_index text (at + 1) in
      let close = run_end class.Directive text (at + 1) in
      let line = run_end_bounds class.Line text (at + 1) (omega arith) in
      let name = run_end_bounds class.Directive text (at + 1) (omega arith) in
      cond_both (eqb next 47) _ _ Ends
      (λ _. (omega (arith, line.0), line.1))
      (λ _. cond_both (eqb next 42) _ _ Ends
      (λ is.
      let star = byte_inside text (at + 1) 42 (omega arith) (eqb-true _ _ is) in
      closed_ends at (length text) _ (IfSome-weaker (comment_end (at + 2) (drop (at + 2) text)) _ (λ end. (at + 2 < end) × (end ≤ length text)) (λ end h. (omega (arith, h.0), omega (arith, h.1, length-drop (at + 2) text))) (comment_ends (at + 2) (drop (at + 2) text))))
      (λ _. cond_both (eqb (slice_index text close) 47) _ _ Ends
      (λ is.
      let slash = byte_inside text close 47 (omega arith) (eqb-true _ _ is) in
      cond_both (is_version (slice_range text at (close + 1))) _ _ Ends (λ _. (omega (arith, name.0), omega arith)) (λ _. (omega (arith, name.0), omega arith)))
      (λ _. (omega arith, omega arith))))

  ref_ends : Ends (ref_at text at)
  unfolding ref_at
  ref_ends =
      let next = slice_index text (at + 1) in
      let label = run_end_bounds class.Label text (at + 1) (omega arith) in
      cond_both (eqb next 123) _ _ Ends
      (λ is.
      let brace = byte_inside text (at + 1) 123 (omega arith) (eqb-true _ _ is) in
      (omega arith, omega arith))
      (λ _. cond_both (is_label_start next) _ _ Ends (λ _. (omega (arith, label.0), label.1)) (λ _. tt))

  word_ends : (in_cells : Bool) → Ends (word_at text in_cells at)
  unfolding word_at
  word_ends in_cells =
      let end = run_end class.Word text at in
      let word = slice_range text at end in
      let run = run_end_bounds class.Word text at (omega arith) in
      cond_both (eqb end at) _ _ Ends
      (λ _. tt)
      (λ some.
      let forward : at < end = omega (arith, run.0, eqb-false _ _ some) in
      cond_both (in_cells && is_ascii_digit (slice_index text at)) _ _ Ends
      (λ _. counted_ends at end (length text) (number_of word) forward run.1)
      (λ _. cond_both (is_preprocessor word && begins_line (take at text)) _ _ Ends (λ _. (forward, run.1)) (λ _. (forward, run.1))))

  pub piece_ends : (comma_alone in_cells : Bool) → Ends (piece_at text comma_alone in_cells at)
  unfolding piece_at
  piece_ends comma_alone in_cells =
      let b = slice_index text at in
      cond_both (is_blank b) _ _ Ends (λ _. (omega arith, omega arith))
      (λ _. cond_both (eqb b 47) _ _ Ends (λ _. slash_ends)
      (λ _. cond_both (eqb b 34) _ _ Ends
      (λ _. quoted_ends at (length text) _ (IfOk-weaker (string_end at (at + 1) (drop (at + 1) text)) _ (λ end. (at + 1 < end) × (end ≤ length text)) (λ end h. (h.0, omega (arith, h.1, length-drop (at + 1) text))) (string_ends at (at + 1) (drop (at + 1) text))))
      (λ _. cond_both (eqb b 38) _ _ Ends (λ _. ref_ends)
      (λ _. cond_both (eqb b 40) _ _ Ends (λ _. (omega arith, omega arith))
      (λ _. cond_both (is_sign b || (eqb b 44 && comma_alone)) _ _ Ends (λ _. (omega arith, omega arith))
      (λ _. word_ends in_cells))))))

-- the same of a piece that was found
pub piece_within : (text : List ℕ) (at : ℕ) (comma_alone in_cells : Bool) (p : Piece) → at < length text → Ok p ≡ piece_at text comma_alone in_cells at → Within at (length text) p
piece_within text at comma_alone in_cells p inside is =
    subst (λ (r : Result Piece LexFault). IfOk r (Within at (length text))) (sym is) (piece_ends text at inside comma_alone in_cells)
