-- What a frame has behind lines that were read of it.
use Rattle.std.proofs.Common.{ℕ, ◌≡◌, ◌≢◌, ◌<◌, List, [], ◌∷◌, ◌++◌, length, All, sym, refl, ap, ◌∙◌, arith, append_assoc, ◌⊎◌, inl, inr}
use Rattle.std.specs.List.{flat_map}
use Rattle.std.proofs.Common.{map}
use Rattle.std.proofs.lemmas.List.{append-nil}
use Rattle.std.proofs.lemmas.List.Elements.{All-head, All-tail}
use Rattle.session.specs.declared.setup.Setup.{Setup}
use Rattle.session.specs.Frame.{setup_text, IsSetup, BoardPart, Demo, Text, Frame, frame_lines, IsFrame, end_line, board_lines, worker_lines, HasNoEnd, IsBoardPart}
use Rattle.session.specs.Inside.Progress.{before_setup, worker_line, done_line}
use Rattle.session.proofs.Frames.{demo_line, dts_line, after_board, differ_at, setup-≢-worker, setup-≢-done, worker-assoc}
use Rattle.rows.proofs.Separators.{head_is, tail_is, split_once, goes_on}
use Rattle.session.proofs.SetupTexts.{setup_same}

-- the board is the one that was read
pub board_left : (board known : BoardPart) (rest more : List (List ℕ)) → IsBoardPart board → IsBoardPart known → board_lines board ++ rest ≡ board_lines known ++ more → (board ≡ known) × (rest ≡ more)
board_left Demo Demo rest more ends ends' same = (refl, tail_is same)
board_left Demo (Text lines) rest more ends ends' same = absurd (differ_at 8 demo_line dts_line refl (head_is same))
board_left (Text lines) Demo rest more ends ends' same = absurd (differ_at 8 dts_line demo_line refl (head_is same))
board_left (Text lines) (Text lines') rest more ends ends' same =
    let spelled : lines ++ end_line ∷ rest ≡ lines' ++ end_line ∷ more = sym (append_assoc lines (end_line ∷ []) rest) ∙ tail_is same ∙ append_assoc lines' (end_line ∷ []) more in
    let cut = split_once end_line lines rest lines' more ends ends' spelled in
    (ap Text cut.0, cut.1)

-- its setup begins as it was read
pub setup_left : (setup known : List Setup) (workers : List (List (List ℕ))) (more : List (List ℕ)) → All IsSetup setup → All IsSetup known → after_board setup workers ≡ map setup_text known ++ more → (rest : List Setup) × (setup ≡ known ++ rest) × (after_board rest workers ≡ more)
setup_left setup [] workers more sound sound' same = (setup, refl, same)
setup_left [] (k ∷ known) [] more sound sound' same = absurd (setup-≢-done k (sym (head_is same)))
setup_left [] (k ∷ known) (w ∷ workers) more sound sound' same = absurd (setup-≢-worker k (sym (head_is same)))
setup_left (s ∷ setup) (k ∷ known) workers more sound sound' same =
    let left = setup_left setup known workers more (All-tail IsSetup s setup sound) (All-tail IsSetup k known sound') (tail_is same) in
    let first : s ≡ k = setup_same s k (All-head IsSetup s setup sound) (All-head IsSetup k known sound') (head_is same) in
    (left.0, ap (λ x. x ∷ setup) first ∙ ap (λ x. k ∷ x) left.1, left.2)

-- no setup line stands there
abbrev pub IsPastSetup : List (List ℕ) → Type 0
IsPastSetup lines = (setup : Setup) (more : List (List ℕ)) → lines ≢ setup_text setup ∷ more

pub past_worker : (more : List (List ℕ)) → IsPastSetup (worker_line ∷ more)
past_worker more setup others same = setup-≢-worker setup (sym (head_is same))

pub past_done : (more : List (List ℕ)) → IsPastSetup (done_line ∷ more)
past_done more setup others same = setup-≢-done setup (sym (head_is same))

pub past_workers : (known : List (List (List ℕ))) (more : List (List ℕ)) → (0 < length known) ⊎ IsPastSetup more → IsPastSetup (flat_map worker_lines known ++ more)
past_workers [] more (inl some) = absurd (omega (arith, some))
past_workers [] more (inr past) = past
past_workers (k ∷ known) more either = λ setup others same. setup-≢-worker setup (sym (head_is same))

no_setup_left : (rest : List Setup) (workers : List (List (List ℕ))) (more : List (List ℕ)) → IsPastSetup more → after_board rest workers ≡ more → rest ≡ []
no_setup_left [] workers more past same = refl
no_setup_left (s ∷ rest) workers more past same = absurd (past s (after_board rest workers) (sym same))

-- its workers begin as they were read
pub workers_left : (workers known : List (List (List ℕ))) (more : List (List ℕ)) → All HasNoEnd workers → All HasNoEnd known → flat_map worker_lines workers ++ done_line ∷ [] ≡ flat_map worker_lines known ++ more → (others : List (List (List ℕ))) × (workers ≡ known ++ others) × (flat_map worker_lines others ++ done_line ∷ [] ≡ more)
workers_left workers [] more ends ends' same = (workers, refl, same)
workers_left [] (k ∷ known) more ends ends' same = absurd (differ_at 1 done_line worker_line refl (head_is same))
workers_left (w ∷ workers) (k ∷ known) more ends ends' same =
    let ours = flat_map worker_lines workers ++ done_line ∷ [] in
    let spelled : worker_line ∷ (w ++ end_line ∷ ours) ≡ worker_line ∷ (k ++ end_line ∷ (flat_map worker_lines known ++ more)) = sym (worker-assoc w (flat_map worker_lines workers) (done_line ∷ [])) ∙ same ∙ worker-assoc k (flat_map worker_lines known) more in
    let cut = split_once end_line w ours k (flat_map worker_lines known ++ more) (All-head HasNoEnd w workers ends) (All-head HasNoEnd k known ends') (tail_is spelled) in
    let left = workers_left workers known more (All-tail HasNoEnd w workers ends) (All-tail HasNoEnd k known ends') cut.1 in
    (left.0, ap (λ x. x ∷ workers) cut.0 ∙ ap (λ x. k ∷ x) left.1, left.2)

-- the worker whose lines were begun has these and more
pub worker_left : (others : List (List (List ℕ))) (calls : List (List ℕ)) (line : List ℕ) (more : List (List ℕ)) → HasNoEnd calls → line ≢ end_line → flat_map worker_lines others ++ done_line ∷ [] ≡ worker_line ∷ (calls ++ line ∷ more) → (rest : List (List ℕ)) × (after : List (List (List ℕ))) × (others ≡ (calls ++ line ∷ rest) ∷ after)
worker_left [] calls line more ends other same = absurd (differ_at 1 done_line worker_line refl (head_is same))
worker_left (w ∷ others) calls line more ends other same =
    let spelled : worker_line ∷ (w ++ end_line ∷ (flat_map worker_lines others ++ done_line ∷ [])) ≡ worker_line ∷ (calls ++ line ∷ more) = sym (worker-assoc w (flat_map worker_lines others) (done_line ∷ [])) ∙ same in
    let here = goes_on end_line w (flat_map worker_lines others ++ done_line ∷ []) calls line more ends other (tail_is spelled) in
    (here.0, others, ap (λ x. x ∷ others) here.1)

-- the lines of this board, this setup and these workers, and more
abbrev pub lines_to : BoardPart → List Setup → List (List (List ℕ)) → List (List ℕ) → List (List ℕ)
lines_to board setup known more = before_setup board ++ (map setup_text setup ++ (flat_map worker_lines known ++ more))

pub to-more : (board : BoardPart) (setup : List Setup) (known : List (List (List ℕ))) (lines more : List (List ℕ)) → lines_to board setup known lines ++ more ≡ lines_to board setup known (lines ++ more)
to-more board setup known lines more =
    append_assoc (before_setup board) (map setup_text setup ++ (flat_map worker_lines known ++ lines)) more
    ∙ ap (λ x. before_setup board ++ x) (append_assoc (map setup_text setup) (flat_map worker_lines known ++ lines) more ∙ ap (λ x. map setup_text setup ++ x) (append_assoc (flat_map worker_lines known) lines more))

pub to-line : (board : BoardPart) (setup : List Setup) (known : List (List (List ℕ))) (lines : List (List ℕ)) (line : List ℕ) (more : List (List ℕ)) → (lines_to board setup known lines ++ line ∷ []) ++ more ≡ lines_to board setup known (lines ++ line ∷ more)
to-line board setup known lines line more =
    append_assoc (lines_to board setup known lines) (line ∷ []) more ∙ to-more board setup known lines (line ∷ more)

-- a frame whose board, setup and first workers were read
module _ (board : BoardPart) (setup : List Setup) (known : List (List (List ℕ))) (is_board : IsBoardPart board) (is_setup : All IsSetup setup) (ends : All HasNoEnd known) (frame : Frame) (more : List (List ℕ)) (is : IsFrame frame) (same : frame_lines frame ≡ lines_to board setup known more) where
  pub setup_behind : (rest : List Setup) × (frame.board ≡ board) × (frame.setup ≡ setup ++ rest) × (after_board rest frame.workers ≡ flat_map worker_lines known ++ more)
  setup_behind =
      let boards = board_left frame.board board (after_board frame.setup frame.workers) (map setup_text setup ++ (flat_map worker_lines known ++ more)) is.board is_board (tail_is same) in
      let setups = setup_left frame.setup setup frame.workers (flat_map worker_lines known ++ more) is.setup is_setup boards.1 in
      (setups.0, boards.0, setups.1, setups.2)

  pub workers_behind : (0 < length known) ⊎ IsPastSetup more → (others : List (List (List ℕ))) × (frame.board ≡ board) × (frame.setup ≡ setup) × (frame.workers ≡ known ++ others) × (flat_map worker_lines others ++ done_line ∷ [] ≡ more)
  workers_behind either =
      let behind = setup_behind in
      let none : behind.0 ≡ [] = no_setup_left behind.0 frame.workers (flat_map worker_lines known ++ more) (past_workers known more either) behind.3 in
      let lines : flat_map worker_lines frame.workers ++ done_line ∷ [] ≡ flat_map worker_lines known ++ more = sym (ap (λ s. after_board s frame.workers) none) ∙ behind.3 in
      let left = workers_left frame.workers known more is.workers ends lines in
      (left.0, behind.1, behind.2 ∙ ap (λ s. setup ++ s) none ∙ append-nil setup, left.1, left.2)
