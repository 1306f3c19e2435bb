-- The text of a board, as far as it was read.
use Rattle.std.proofs.Common.{ℕ, ◌≡◌, ◌≢◌, ◌+◌, ◌-◌, ◌≤◌, List, [], ◌∷◌, ◌++◌, length, take, Some, sym, refl, ap, ◌∙◌, subst, arith, append_assoc, length-append}
use Rattle.std.proofs.lemmas.Grind.{flat_map-append}
use Rattle.std.proofs.lemmas.List.{append-nil, take_at}
use Rattle.std.proofs.lemmas.List.Elements.{All-nil}
use Rattle.rows.specs.Words.{ended}
use Rattle.session.specs.declared.fault.SessionKind.TheVariants.{BadSession}
use Rattle.session.specs.BoardText.{text_of}
use Rattle.session.specs.Frame.{end_line, HasNoEnd}
use Rattle.session.specs.Grammar.{LeavesSession}
use Rattle.session.specs.Lines.{lines_of, unended}
use Rattle.session.specs.Inside.Frames.{StandBefore, IsTextRead}
use Rattle.session.proofs.Beginnings.{All-more}
use Rattle.session.proofs.Frames.{first_line, dts_line}
use Rattle.session.proofs.Heads.{text_begins, text_ends}
use Rattle.session.proofs.Leaves.{lines_is, unended_is, leaves_last}
use Rattle.rows.proofs.Separators.{Lacks}

-- these lines were read of it
pub record TextSoFar (text rest : List ℕ) (number : ℕ) : Type 0 where
  pub lines : List (List ℕ)
  pub no_end : HasNoEnd lines
  pub bytes : text ≡ text_of lines ++ rest
  pub stand : StandBefore text lines rest
  pub place : number ≡ length lines + 3

take_front : (front rest text : List ℕ) → text ≡ front ++ rest → take (length text - length rest) text ≡ front
take_front front rest text same =
    let many : length text - length rest ≡ length front = omega (arith, ap length same, length-append front rest) in
    rw many (ap (take (length front)) same ∙ take_at front rest (length front) refl)

pub text_begun : (text : List ℕ) → TextSoFar text text 3
text_begun text = record {
  lines = [];
  no_end = All-nil (λ line. line ≢ end_line);
  bytes = refl;
  stand = record { before = refl; ended = refl };
  place = refl;
}

module _ (text rest : List ℕ) (number : ℕ) (read : TextSoFar text rest number) where
  module _ (line more : List ℕ) (cut : rest ≡ line ++ 10 ∷ more) (whole : Lacks 10 line) where
    stand_more : StandBefore text (read.lines ++ line ∷ []) more
    stand_more = record {
      before = read.stand.before ∙ ap (λ ls. read.lines ++ ls) (lines_is rest line more cut whole) ∙ sym (append_assoc read.lines (line ∷ []) (lines_of more));
      ended = read.stand.ended ∙ unended_is rest line more cut whole;
    }

    text_more : text_of (read.lines ++ line ∷ []) ++ more ≡ text_of read.lines ++ rest
    text_more =
        ap (λ t. t ++ more) (flat_map-append ended read.lines (line ∷ []) ∙ ap (λ t. text_of read.lines ++ t) (append-nil (ended line)))
        ∙ append_assoc (text_of read.lines) (ended line) more
        ∙ ap (λ t. text_of read.lines ++ t) (append_assoc line (10 ∷ []) more ∙ sym cut)

    -- one line more
    pub text_next : line ≢ end_line → TextSoFar text more (number + 1)
    text_next other = record {
      lines = read.lines ++ line ∷ [];
      no_end = All-more (λ l. l ≢ end_line) read.lines line read.no_end other;
      bytes = read.bytes ∙ sym text_more;
      stand = stand_more;
      place = omega (arith, read.place, length-append read.lines (line ∷ []));
    }

    -- its end
    pub text_done : line ≡ end_line → number + 1 + length more ≤ length text + 3 → IsTextRead text (Some (take (length text - length rest) text)) more (number + 1)
    text_done same room = record {
      lines = read.lines;
      no_end = read.no_end;
      told = ap Some (take_front (text_of read.lines) rest text read.bytes);
      stand = subst (λ l. StandBefore text (read.lines ++ l ∷ []) more) same stand_more;
      place = omega (arith, read.place);
      room = room;
    }

  -- the end of the session instead
  pub text_last : Lacks 10 rest → LeavesSession (first_line ∷ dts_line ∷ lines_of text) (unended text) number BadSession
  text_last lacks =
      leaves_last rest lacks (first_line ∷ dts_line ∷ lines_of text) (first_line ∷ dts_line ∷ read.lines) (unended text) number (ap (λ ls. first_line ∷ dts_line ∷ ls) read.stand.before) (text_begins read.lines read.no_end) (text_ends read.lines read.no_end (unended text)) (omega (arith, read.place))
