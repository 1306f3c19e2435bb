-- The first fault of a text, from the line that shows it.
use Rattle.std.proofs.Common.{ℕ, ◌≡◌, ◌+◌, List, [], ◌∷◌, ◌++◌, length, take, sym, refl, ap, ◌∙◌, subst, arith, append_assoc, length-append}
use Rattle.std.proofs.lemmas.List.{append-nil, take_at, take_all}
use Rattle.session.specs.declared.fault.SessionFault.{SessionFault}
use Rattle.session.specs.declared.fault.SessionKind.{SessionKind}
use Rattle.session.specs.declared.fault.SessionKind.TheVariants.{BadSession}
use Rattle.session.specs.Forms.{IsWithinLimits}
use Rattle.session.specs.Frame.{Frame, Begins}
use Rattle.session.specs.Grammar.{AreFrame, LeavesSession, RefusesLine}
use Rattle.session.specs.Lines.{lines_of, unended}
use Rattle.session.proofs.LineLaws.{lines_next, unended_next, lines_none}
use Rattle.rows.proofs.Separators.{Lacks}

-- the first fault stands at the line after these
pub leaves_at : (good rest : List (List ℕ)) (line tail : List ℕ) (kind : SessionKind) (number : ℕ) → Begins IsWithinLimits good → RefusesLine kind (good ++ line ∷ []) → number ≡ length good + 1 → LeavesSession (good ++ line ∷ rest) tail number kind
leaves_at good rest line tail kind number begins refused place = record {
  good = length good;
  place = place;
  begins = rw (take_at good (line ∷ rest) (length good) refl) begins;
  within = omega (arith, length-append good (line ∷ rest));
  refused = λ _. let cut : take (length good + 1) (good ++ line ∷ rest) ≡ good ++ line ∷ [] = ap (take (length good + 1)) (sym (append_assoc good (line ∷ []) rest)) ∙ take_at (good ++ line ∷ []) rest (length good + 1) (length-append good (line ∷ [])) in rw cut refused;
  ended = λ all. absurd (omega (arith, all, length-append good (line ∷ rest)));
}

-- the first fault is the end of the text, after these lines
pub leaves_end : (good : List (List ℕ)) (tail : List ℕ) (number : ℕ) → Begins IsWithinLimits good → ((frame : Frame) → AreFrame good tail frame → ⊥) → number ≡ length good + 1 → LeavesSession good tail number BadSession
leaves_end good tail number begins unfinished place = record {
  good = length good;
  place = place;
  begins = rw (take_all (length good) good (omega arith)) begins;
  within = omega arith;
  refused = λ more. absurd (omega (arith, more));
  ended = λ _. (refl, unfinished);
}

-- at a whole line of a text
module _ (text line rest : List ℕ) (cut : text ≡ line ++ 10 ∷ rest) (whole : Lacks 10 line) where
  pub lines_is : lines_of text ≡ line ∷ lines_of rest
  lines_is = ap lines_of cut ∙ lines_next line rest whole

  pub unended_is : unended text ≡ unended rest
  unended_is = ap unended cut ∙ unended_next line rest whole

  pub leaves_here : (lines good : List (List ℕ)) (tail : List ℕ) (kind : SessionKind) (number : ℕ) → lines ≡ good ++ lines_of text → Begins IsWithinLimits good → RefusesLine kind (good ++ line ∷ []) → number ≡ length good + 1 → LeavesSession lines tail number kind
  leaves_here lines good tail kind number before begins refused place =
      subst (λ ls. LeavesSession ls tail number kind) (sym (before ∙ ap (λ ls. good ++ ls) lines_is)) (leaves_at good (lines_of rest) line tail kind number begins refused place)

-- at the end of a text, or at a last line without newline
pub leaves_last : (text : List ℕ) → Lacks 10 text → (lines good : List (List ℕ)) (tail : List ℕ) (number : ℕ) → lines ≡ good ++ lines_of text → Begins IsWithinLimits good → ((frame : Frame) → AreFrame good tail frame → ⊥) → number ≡ length good + 1 → LeavesSession lines tail number BadSession
leaves_last text lacks lines good tail number before begins unfinished place =
    subst (λ ls. LeavesSession ls tail number BadSession) (sym (before ∙ ap (λ ls. good ++ ls) (lines_none text lacks) ∙ append-nil good)) (leaves_end good tail number begins unfinished place)

-- a fault that was made so is the one of these lines
pub fault_of : {lines : List (List ℕ)} {tail : List ℕ} {number : ℕ} {kind : SessionKind} {fault : SessionFault} → fault ≡ record { line = number; kind = kind } → LeavesSession lines tail number kind → LeavesSession lines tail fault.line fault.kind
fault_of {lines} {tail} {number} {kind} made leaves =
    subst (λ f. LeavesSession lines tail f.line f.kind) (sym made) leaves
