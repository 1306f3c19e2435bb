-- The first fault of a session's head and board.
use Rattle.std.proofs.Common.{ℕ, ◌≡◌, ◌≢◌, List, [], ◌∷◌, ◌++◌, sym, refl, ap, ◌∙◌, arith, append_assoc}
use Rattle.std.proofs.lemmas.List.Elements.{All-nil}
use Rattle.session.specs.Forms.{IsWithinLimits}
use Rattle.session.specs.Frame.{IsSetup, BoardPart, Demo, Text, Frame, frame_lines, IsFrame, Begins, end_line, board_lines, HasNoEnd, IsBoardPart}
use Rattle.session.specs.Grammar.{AreFrame}
use Rattle.session.specs.Inside.Progress.{Fits, done_line}
use Rattle.session.proofs.Beginnings.{IsShort, with_workers, within_with}
use Rattle.session.proofs.Frames.{first_line, demo_line, dts_line, after_board, differ_at, not_board}
use Rattle.rows.proofs.Separators.{head_is, tail_is, not_split}

-- a session of this board alone
empty_on : (board : BoardPart) → IsBoardPart board → IsWithinLimits (with_workers board [] [])
empty_on board is = within_with board [] is (All-nil IsSetup) [] (All-nil (Fits board)) (omega arith) (All-nil IsShort)

-- before the first line
pub nothing_begins : Begins IsWithinLimits []
nothing_begins = (with_workers Demo [] [], empty_on Demo tt, frame_lines (with_workers Demo [] []), refl)

pub first_refused : (line : List ℕ) → line ≢ first_line → Begins IsFrame (line ∷ []) → ⊥
first_refused line other (frame, is, more, same) = other (sym (head_is same))

pub nothing_ends : (tail : List ℕ) (frame : Frame) → AreFrame [] tail frame → ⊥
nothing_ends tail frame are = let same : [] ≡ frame_lines frame = are.spelled in cc

-- before the board
pub head_begins : Begins IsWithinLimits (first_line ∷ [])
head_begins = (with_workers Demo [] [], empty_on Demo tt, demo_line ∷ done_line ∷ [], refl)

pub board_refused : (line : List ℕ) → line ≢ demo_line → line ≢ dts_line → Begins IsFrame (first_line ∷ line ∷ []) → ⊥
board_refused line not_demo not_dts (frame, is, more, same) =
    not_board frame.board (after_board frame.setup frame.workers) line more not_demo not_dts (tail_is same)

board_some : (board : BoardPart) (rest : List (List ℕ)) → board_lines board ++ rest ≢ []
board_some Demo rest same = cc
board_some (Text lines) rest same = cc

pub head_ends : (tail : List ℕ) (frame : Frame) → AreFrame (first_line ∷ []) tail frame → ⊥
head_ends tail frame are = board_some frame.board (after_board frame.setup frame.workers) (sym (tail_is are.spelled))

-- in the text of the board
pub text_begins : (lines : List (List ℕ)) → HasNoEnd lines → Begins IsWithinLimits (first_line ∷ dts_line ∷ lines)
text_begins lines no_end =
    (with_workers (Text lines) [] [], empty_on (Text lines) no_end, end_line ∷ done_line ∷ [], ap (λ x. first_line ∷ dts_line ∷ x) (append_assoc lines (end_line ∷ []) (done_line ∷ [])))

text_unended : (board : BoardPart) (rest lines : List (List ℕ)) → HasNoEnd lines → board_lines board ++ rest ≢ dts_line ∷ lines
text_unended Demo rest lines no_end same = differ_at 8 demo_line dts_line refl (head_is same)
text_unended (Text lines') rest lines no_end same =
    not_split end_line lines lines' rest no_end (sym (tail_is same) ∙ append_assoc lines' (end_line ∷ []) rest)

pub text_ends : (lines : List (List ℕ)) → HasNoEnd lines → (tail : List ℕ) (frame : Frame) → AreFrame (first_line ∷ dts_line ∷ lines) tail frame → ⊥
text_ends lines no_end tail frame are =
    text_unended frame.board (after_board frame.setup frame.workers) lines no_end (sym (tail_is are.spelled))
