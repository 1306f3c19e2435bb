-- What the frame of a text tells of its board's text and of its setup.
use Rattle.std.proofs.Common.{◌≡◌, ℕ, ◌+◌, ◌≤◌, List, [], ◌∷◌, ◌++◌, codes, length, map, take, Some, sym, ap, ◌∙◌, refl, arith, append_assoc, length-append}
use Rattle.std.specs.Prelude.{IfSome, flat_map, Result, Ok, Err}
use Rattle.std.proofs.lemmas.List.{length-map, take_all}
use Rattle.board_draft.specs.declared.drafted.Drafted.{Drafted}
use Rattle.session.specs.declared.fault.SessionFault.{SessionFault}
use Rattle.session.specs.BoardText.{text_of, BoardComes}
use Rattle.session.specs.Frame.{BoardPart, Demo, Text, Frame, setup_text, end_line, board_lines, worker_lines}
use Rattle.session.specs.Grammar.{AreFrame}
use Rattle.session.specs.Lines.{lines_of}
use Rattle.session.specs.Loading.{lines_before_setup}
use Rattle.session.specs.Inside.Loaded.{TextComes, lines_before}
use Rattle.session.specs.Inside.Read.{board_text}
use Rattle.session.proofs.TextLines.{newlines, some_long, lines_long, lines_plain, part_long, part_plain}

-- the lines of a text stand behind the first two
shape : (lines behind : List (List ℕ)) → codes "%session 1" ∷ board_lines (Text lines) ++ behind ≡ (codes "%session 1" ∷ codes "%board dts" ∷ []) ++ (lines ++ (end_line ∷ behind))
shape lines behind = ap (λ ls. codes "%session 1" ∷ codes "%board dts" ∷ ls) (append_assoc lines (end_line ∷ []) behind)

-- the text is no longer than the session's, and what stands before the setup is counted by its newlines
pub part_of : (bytes : List ℕ) (board : BoardPart) (behind : List (List ℕ)) → lines_of bytes ≡ codes "%session 1" ∷ board_lines board ++ behind
    → IfSome (board_text board) (λ text. length text ≤ length bytes) × (lines_before (board_text board) ≡ 1 + length (board_lines board))
part_of bytes Demo behind is = (tt, refl)
part_of bytes (Text lines) behind is =
    let head = codes "%session 1" ∷ codes "%board dts" ∷ [] in
    let whole = is ∙ shape lines behind in
    let long = part_long head lines (end_line ∷ behind) in
    let same = ap (λ ls. length (text_of ls)) whole in
    let plain : newlines (text_of lines) ≡ length lines =
    part_plain head lines (end_line ∷ behind) (ap (λ ls. newlines (text_of ls)) (sym whole) ∙ lines_plain bytes ∙ ap length whole) in
    let all : take (length (text_of lines)) (text_of lines) ≡ text_of lines = take_all (length (text_of lines)) (text_of lines) (omega arith) in
    let counted : lines_before (Some (text_of lines)) ≡ 3 + newlines (text_of lines) = ap (λ t. 3 + newlines t) all in
    let ends = length-append lines (end_line ∷ []) in (
      omega (arith, long, same, lines_long bytes),
      omega (arith, counted, plain, ends),
    )

module _ (bytes rest : List ℕ) (frame : Frame) (is : AreFrame (lines_of bytes) rest frame) where
  behind : List (List ℕ)
  behind = map setup_text frame.setup ++ (flat_map worker_lines frame.workers ++ codes "%done" ∷ [])

  pub before_is : lines_before (board_text frame.board) ≡ lines_before_setup frame
  unfolding behind
  before_is = (part_of bytes frame.board behind is.spelled).1

  pub text_short : IfSome (board_text frame.board) (λ text. length text ≤ length bytes)
  unfolding behind
  text_short = (part_of bytes frame.board behind is.spelled).0

  -- the setup's lines are some of the text's
  pub setup_few : lines_before_setup frame + length frame.setup ≤ length bytes
  setup_few =
      let e = ap length is.spelled in
      let f = length-append (codes "%session 1" ∷ board_lines frame.board) (map setup_text frame.setup ++ (flat_map worker_lines frame.workers ++ codes "%done" ∷ [])) in
      let g = length-append (map setup_text frame.setup) (flat_map worker_lines frame.workers ++ codes "%done" ∷ []) in
      let h = length-map frame.setup setup_text in
      omega (arith, e, f, g, h, some_long (lines_of bytes), lines_long bytes)

-- what a text comes to is what its board comes to
pub comes : (board : BoardPart) (come : Result Drafted SessionFault) → TextComes (board_text board) come → BoardComes board come
comes Demo (Ok drafted) of_text = of_text
comes Demo (Err refusal) of_text = of_text
comes (Text lines) come of_text = of_text
