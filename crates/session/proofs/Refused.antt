-- Why a line can't follow what was read.
use Rattle.std.proofs.Common.{ℕ, ◌≡◌, ◌≢◌, ◌<◌, ◌≤◌, List, [], ◌∷◌, ◌++◌, length, All, sym, refl, ap, ◌∙◌, subst, arith, length-append, inl, inr}
use Rattle.std.specs.List.{flat_map}
use Rattle.std.proofs.lemmas.List.Elements.{All-head, All-tail}
use Rattle.session.specs.declared.setup.Setup.{Setup}
use Rattle.session.specs.Forms.{AreBuiltLines, IsBuilt, HasFewWorkers, IsWithinLimits}
use Rattle.session.specs.Frame.{IsSetup, BoardPart, Frame, frame_lines, IsFrame, Begins, end_line, worker_lines, HasNoEnd, IsBoardPart}
use Rattle.session.specs.Grammar.{AreFrame}
use Rattle.session.specs.Inside.Progress.{worker_line, done_line}
use Rattle.session.proofs.Frames.{after_board, differ_at, worker-assoc, after_board_line, after_worker_line, after_worker_done}
use Rattle.session.proofs.Places.{lines_to, to-line, past_worker, past_done, setup_behind, workers_behind, worker_left}
use Rattle.rows.proofs.Separators.{head_is, tail_is, not_split}
use Rattle.session.proofs.SetupLines.{IsSetupLine}

-- what all have, the last ones have
All-right : (P : Setup → Type 0) (before after : List Setup) → All P (before ++ after) → All P after
All-right P [] after all = all
All-right P (b ∷ before) after all = All-right P before after (All-tail P b (before ++ after) all)

-- what all have, one in their middle has
All-middle : (P : List (List ℕ) → Type 0) (before : List (List (List ℕ))) (here : List (List ℕ)) (after : List (List (List ℕ))) → All P (before ++ here ∷ after) → P here
All-middle P [] here after all = All-head P here after all
All-middle P (b ∷ before) here after all = All-middle P before here after (All-tail P b (before ++ here ∷ after) all)

worker_some : (others : List (List (List ℕ))) (more : List (List ℕ)) → flat_map worker_lines others ++ done_line ∷ [] ≡ worker_line ∷ more → 0 < length others
worker_some [] more same = absurd (differ_at 1 done_line worker_line refl (head_is same))
worker_some (w ∷ others) more same = omega arith

-- some line stands there
rest_some : (rest : List Setup) (workers : List (List (List ℕ))) → after_board rest workers ≢ []
rest_some [] [] same = cc
rest_some [] (w ∷ workers) same = cc
rest_some (s ∷ rest) workers same = cc

no_worker_some : (others : List (List (List ℕ))) → flat_map worker_lines others ++ done_line ∷ [] ≢ []
no_worker_some [] same = cc
no_worker_some (w ∷ others) same = cc

worker_ends : (others : List (List (List ℕ))) (calls : List (List ℕ)) → HasNoEnd calls → flat_map worker_lines others ++ done_line ∷ [] ≢ worker_line ∷ calls
worker_ends [] calls ends same = differ_at 1 done_line worker_line refl (head_is same)
worker_ends (w ∷ others) calls ends same =
    not_split end_line calls w (flat_map worker_lines others ++ done_line ∷ []) ends (sym (tail_is (sym (worker-assoc w (flat_map worker_lines others) (done_line ∷ [])) ∙ same)))

module _ (board : BoardPart) (setup : List Setup) (known : List (List (List ℕ))) (is_board : IsBoardPart board) (is_setup : All IsSetup setup) (ends : All HasNoEnd known) where
  -- the end, where none may stand
  pub board_ends : known ≡ [] → (tail : List ℕ) (frame : Frame) → AreFrame (lines_to board setup known []) tail frame → ⊥
  board_ends none tail frame are =
      let behind = setup_behind board setup known is_board is_setup ends frame [] are.limits.workers.built.grammar (sym are.spelled) in
      rest_some behind.0 frame.workers (behind.3 ∙ ap (λ k. flat_map worker_lines k ++ []) none)

  pub between_ends : 0 < length known → (tail : List ℕ) (frame : Frame) → AreFrame (lines_to board setup known []) tail frame → ⊥
  between_ends some tail frame are =
      let behind = workers_behind board setup known is_board is_setup ends frame [] are.limits.workers.built.grammar (sym are.spelled) (inl some) in
      no_worker_some behind.0 behind.4

  pub worker_unended : (calls : List (List ℕ)) → HasNoEnd calls → (tail : List ℕ) (frame : Frame) → AreFrame (lines_to board setup known (worker_line ∷ calls)) tail frame → ⊥
  worker_unended calls no_end tail frame are =
      let behind = workers_behind board setup known is_board is_setup ends frame (worker_line ∷ calls) are.limits.workers.built.grammar (sym are.spelled) (inr (past_worker calls)) in
      worker_ends behind.0 calls no_end behind.4

  -- behind the board
  pub setup_refused : (line : List ℕ) → known ≡ [] → line ≢ worker_line → line ≢ done_line → (IsSetupLine line → ⊥) → Begins IsFrame (lines_to board setup known [] ++ line ∷ []) → ⊥
  setup_refused line none not_worker not_done not_setup (frame, is, more, same) =
      let behind = setup_behind board setup known is_board is_setup ends frame (line ∷ more) is (same ∙ to-line board setup known [] line more) in
      let rest_sound : All IsSetup behind.0 = All-right IsSetup setup behind.0 (subst (λ s. All IsSetup s) behind.2 is.setup) in
      after_board_line behind.0 frame.workers line more rest_sound not_worker not_done not_setup (behind.3 ∙ ap (λ k. flat_map worker_lines k ++ line ∷ more) none)

  -- behind a worker
  pub between_refused : (line : List ℕ) → 0 < length known → line ≢ worker_line → line ≢ done_line → Begins IsFrame (lines_to board setup known [] ++ line ∷ []) → ⊥
  between_refused line some not_worker not_done (frame, is, more, same) =
      let behind = workers_behind board setup known is_board is_setup ends frame (line ∷ more) is (same ∙ to-line board setup known [] line more) (inl some) in
      after_worker_line behind.0 line more not_worker not_done behind.4

  -- behind the end
  pub done_refused : (line : List ℕ) → Begins IsFrame (lines_to board setup known (done_line ∷ []) ++ line ∷ []) → ⊥
  done_refused line (frame, is, more, same) =
      let behind = workers_behind board setup known is_board is_setup ends frame (done_line ∷ line ∷ more) is (same ∙ to-line board setup known (done_line ∷ []) line more) (inr (past_done (line ∷ more))) in
      after_worker_done behind.0 line more behind.4

  -- a worker too many
  pub worker_refused : length known ≡ 16 → Begins HasFewWorkers (lines_to board setup known [] ++ worker_line ∷ []) → ⊥
  worker_refused full (frame, few, more, same) =
      let behind = workers_behind board setup known is_board is_setup ends frame (worker_line ∷ more) few.built.grammar (same ∙ to-line board setup known [] worker_line more) (inr (past_worker more)) in
      let others = worker_some behind.0 more behind.4 in
      omega (arith, few.few, full, others, ap length behind.3, length-append known behind.0)

  module _ (calls : List (List ℕ)) (line : List ℕ) (no_end : HasNoEnd calls) (other : line ≢ end_line) where
    -- one of its workers has these lines, and more
    pub worker_behind : (frame : Frame) (more : List (List ℕ)) → IsFrame frame → frame_lines frame ≡ (lines_to board setup known (worker_line ∷ calls) ++ line ∷ []) ++ more → (rest : List (List ℕ)) × (after : List (List (List ℕ))) × (frame.board ≡ board) × (frame.workers ≡ known ++ (calls ++ line ∷ rest) ∷ after)
    worker_behind frame more is same =
        let behind = workers_behind board setup known is_board is_setup ends frame (worker_line ∷ (calls ++ line ∷ more)) is (same ∙ to-line board setup known (worker_line ∷ calls) line more) (inr (past_worker (calls ++ line ∷ more))) in
        let here = worker_left behind.0 calls line more no_end other behind.4 in
        (here.0, here.1, behind.1, behind.3 ∙ ap (λ x. known ++ x) here.2)

    -- a line that no built worker has there
    pub call_refused : ((more : List (List ℕ)) → AreBuiltLines board (calls ++ line ∷ more) → ⊥) → Begins IsBuilt (lines_to board setup known (worker_line ∷ calls) ++ line ∷ []) → ⊥
    call_refused unbuilt (frame, built, more, same) =
        let behind = worker_behind frame more built.grammar same in
        let all : All (AreBuiltLines board) (known ++ (calls ++ line ∷ behind.0) ∷ behind.1) = subst (λ ws. All (AreBuiltLines board) ws) behind.3 (subst (λ b. All (AreBuiltLines b) frame.workers) behind.2 built.workers) in
        unbuilt behind.0 (All-middle (AreBuiltLines board) known (calls ++ line ∷ behind.0) behind.1 all)

    -- a line too many
    pub line_refused : length calls ≡ 4096 → Begins IsWithinLimits (lines_to board setup known (worker_line ∷ calls) ++ line ∷ []) → ⊥
    line_refused full (frame, within, more, same) =
        let behind = worker_behind frame more within.workers.built.grammar same in
        let short : length (calls ++ line ∷ behind.0) ≤ 4096 = All-middle (λ lines. length lines ≤ 4096) known (calls ++ line ∷ behind.0) behind.1 (subst (λ ws. All (λ lines. length lines ≤ 4096) ws) behind.3 within.short) in
        omega (arith, full, short, length-append calls (line ∷ behind.0))
