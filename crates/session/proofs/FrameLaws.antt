-- A text has one frame at most, and where it has one it is nowhere left; it is left at one line and for one reason.
use Rattle.std.proofs.Common.{ℕ, ◌≡◌, ◌+◌, ◌<◌, List, [], ◌∷◌, ◌++◌, length, take, drop, sym, refl, ap, ◌∙◌, subst, arith, ⊎_elim, inr}
use Rattle.std.specs.List.{flat_map}
use Rattle.std.proofs.lemmas.Bool.{cases_lt}
use Rattle.std.proofs.lemmas.List.{append-nil, take-append-drop, take-take}
use Rattle.session.specs.declared.fault.SessionKind.{SessionKind}
use Rattle.session.specs.declared.fault.SessionKind.TheVariants.{BadSession, NotYet, TooManyWorkers, TooManyLines}
use Rattle.session.specs.declared.setup.Setup.{Setup}
use Rattle.session.specs.Forms.{IsBuilt, HasFewWorkers, IsWithinLimits}
use Rattle.session.specs.Frame.{BoardPart, Frame, IsFrame, Begins, worker_lines}
use Rattle.session.specs.Grammar.{AreFrame, LeavesSession, RefusesLine}
use Rattle.session.specs.Inside.Progress.{done_line, worker_line}
use Rattle.session.proofs.Beginnings.{frame_from_built, built_from_few, few_from_within, begins_larger, begins_part}
use Rattle.session.proofs.Frames.{differ_at}
use Rattle.session.proofs.Places.{past_done, workers_behind}
use Rattle.rows.proofs.Separators.{head_is}

no_other : (others : List (List (List ℕ))) → flat_map worker_lines others ++ done_line ∷ [] ≡ done_line ∷ [] → others ≡ []
no_other [] same = refl
no_other (w ∷ others) same = absurd (differ_at 1 worker_line done_line refl (head_is same))

frame_same : (f g : Frame) → f.board ≡ g.board → f.setup ≡ g.setup → f.workers ≡ g.workers → f ≡ g
frame_same f g boards setups workers =
    let with_board : BoardPart → Frame = λ b. record { board = b; setup = f.setup; workers = f.workers } in
    let with_setup : List Setup → Frame = λ s. record { board = g.board; setup = s; workers = f.workers } in
    let with_workers : List (List (List ℕ)) → Frame = λ w. record { board = g.board; setup = g.setup; workers = w } in
    ap with_board boards ∙ ap with_setup setups ∙ ap with_workers workers

pub one_frame : (lines : List (List ℕ)) (rest : List ℕ) (f g : Frame) → AreFrame lines rest f → AreFrame lines rest g → f ≡ g
one_frame lines rest f g are other =
    let is = other.limits.workers.built.grammar in
    let behind = workers_behind g.board g.setup g.workers is.board is.setup is.workers f (done_line ∷ []) are.limits.workers.built.grammar (sym are.spelled ∙ other.spelled) (inr (past_done [])) in
    frame_same f g behind.1 behind.2 (behind.3 ∙ ap (λ o. g.workers ++ o) (no_other behind.0 behind.4) ∙ append-nil g.workers)

-- the grammars that a kind of refusal goes by
few_within : (lines : List (List ℕ)) → Begins IsWithinLimits lines → Begins HasFewWorkers lines
few_within = begins_larger IsWithinLimits HasFewWorkers few_from_within

built_few : (lines : List (List ℕ)) → Begins HasFewWorkers lines → Begins IsBuilt lines
built_few = begins_larger HasFewWorkers IsBuilt built_from_few

frame_built : (lines : List (List ℕ)) → Begins IsBuilt lines → Begins IsFrame lines
frame_built = begins_larger IsBuilt IsFrame frame_from_built

-- what begins a session isn't refused
refuses_none : (kind : SessionKind) (lines : List (List ℕ)) → Begins IsWithinLimits lines → RefusesLine kind lines → ⊥
refuses_none BadSession lines begins refused = refused (frame_built lines (built_few lines (few_within lines begins)))
refuses_none NotYet lines begins refused = refused.1 (built_few lines (few_within lines begins))
refuses_none TooManyWorkers lines begins refused = refused.1 (few_within lines begins)
refuses_none TooManyLines lines begins refused = refused.1 begins
refuses_none kind lines begins refused = refused

-- a line is refused for one reason
bad_only : (kind : SessionKind) (lines : List (List ℕ)) → RefusesLine BadSession lines → RefusesLine kind lines → BadSession ≡ kind
bad_only BadSession lines bad refused = refl
bad_only NotYet lines bad refused = absurd (bad refused.0)
bad_only TooManyWorkers lines bad refused = absurd (bad (frame_built lines refused.0))
bad_only TooManyLines lines bad refused = absurd (bad (frame_built lines (built_few lines refused.0)))
bad_only kind lines bad refused = absurd refused

not_yet_only : (kind : SessionKind) (lines : List (List ℕ)) → RefusesLine NotYet lines → RefusesLine kind lines → NotYet ≡ kind
not_yet_only BadSession lines unbuilt refused = absurd (refused unbuilt.0)
not_yet_only NotYet lines unbuilt refused = refl
not_yet_only TooManyWorkers lines unbuilt refused = absurd (unbuilt.1 refused.0)
not_yet_only TooManyLines lines unbuilt refused = absurd (unbuilt.1 (built_few lines refused.0))
not_yet_only kind lines unbuilt refused = absurd refused

many_workers_only : (kind : SessionKind) (lines : List (List ℕ)) → RefusesLine TooManyWorkers lines → RefusesLine kind lines → TooManyWorkers ≡ kind
many_workers_only BadSession lines many refused = absurd (refused (frame_built lines many.0))
many_workers_only NotYet lines many refused = absurd (refused.1 many.0)
many_workers_only TooManyWorkers lines many refused = refl
many_workers_only TooManyLines lines many refused = absurd (many.1 refused.0)
many_workers_only kind lines many refused = absurd refused

many_lines_only : (kind : SessionKind) (lines : List (List ℕ)) → RefusesLine TooManyLines lines → RefusesLine kind lines → TooManyLines ≡ kind
many_lines_only BadSession lines many refused = absurd (refused (frame_built lines (built_few lines many.0)))
many_lines_only NotYet lines many refused = absurd (refused.1 (built_few lines many.0))
many_lines_only TooManyWorkers lines many refused = absurd (refused.1 many.0)
many_lines_only TooManyLines lines many refused = refl
many_lines_only kind lines many refused = absurd refused

one_kind : (kind other : SessionKind) (lines : List (List ℕ)) → RefusesLine kind lines → RefusesLine other lines → kind ≡ other
one_kind BadSession other lines r s = bad_only other lines r s
one_kind NotYet other lines r s = not_yet_only other lines r s
one_kind TooManyWorkers other lines r s = many_workers_only other lines r s
one_kind TooManyLines other lines r s = many_lines_only other lines r s
one_kind kind other lines r s = absurd r

pub frames_have_no_fault : (lines : List (List ℕ)) (rest : List ℕ) (frame : Frame) (line : ℕ) (kind : SessionKind) → AreFrame lines rest frame → LeavesSession lines rest line kind → ⊥
frames_have_no_fault lines rest frame line kind are leaves =
    ⊎_elim (λ before. let next = leaves.good + 1 in refuses_none kind (take next lines) (frame, are.limits, drop next lines, sym are.spelled ∙ sym (take-append-drop next lines)) (leaves.refused before))
    (λ after. (leaves.ended (omega (arith, leaves.within, after))).1 frame are)
    (cases_lt leaves.good (length lines))

module _ (lines : List (List ℕ)) (rest : List ℕ) where
  -- a session that is left at one line wasn't left before
  not_before : (line other : ℕ) (kind kind' : SessionKind) (leaves : LeavesSession lines rest line kind) (later : LeavesSession lines rest other kind') → leaves.good < later.good → ⊥
  not_before line other kind kind' leaves later before =
      let next = leaves.good + 1 in
      let part : take next (take later.good lines) ++ drop next (take later.good lines) ≡ take later.good lines = take-append-drop next (take later.good lines) in
      let longer : Begins IsWithinLimits (take next (take later.good lines) ++ drop next (take later.good lines)) = subst (Begins IsWithinLimits) (sym part) later.begins in
      let shorter : Begins IsWithinLimits (take next lines) = subst (Begins IsWithinLimits) (take-take next later.good lines (omega (arith, before))) (begins_part IsWithinLimits (take next (take later.good lines)) (drop next (take later.good lines)) longer) in
      refuses_none kind (take next lines) shorter (leaves.refused (omega (arith, before, later.within)))

  same_good : (line other : ℕ) (kind kind' : SessionKind) (leaves : LeavesSession lines rest line kind) (later : LeavesSession lines rest other kind') → leaves.good ≡ later.good
  same_good line other kind kind' leaves later =
      ⊎_elim (λ before. absurd (not_before line other kind kind' leaves later before))
      (λ least. ⊎_elim (λ after. absurd (not_before other line kind' kind later leaves after))
      (λ most. omega (arith, least, most))
      (cases_lt later.good leaves.good))
      (cases_lt leaves.good later.good)

  same_kind : (line other : ℕ) (kind kind' : SessionKind) (leaves : LeavesSession lines rest line kind) (later : LeavesSession lines rest other kind') → leaves.good ≡ later.good → kind ≡ kind'
  same_kind line other kind kind' leaves later same =
      ⊎_elim (λ before. one_kind kind kind' (take (leaves.good + 1) lines) (leaves.refused before) (subst (λ n. RefusesLine kind' (take (n + 1) lines)) (sym same) (later.refused (omega (arith, before, same)))))
      (λ after. (leaves.ended (omega (arith, leaves.within, after))).0 ∙ sym (later.ended (omega (arith, later.within, after, same))).0)
      (cases_lt leaves.good (length lines))

  pub one_leaving : (line other : ℕ) (kind kind' : SessionKind) → LeavesSession lines rest line kind → LeavesSession lines rest other kind' → (line ≡ other) × (kind ≡ kind')
  one_leaving line other kind kind' leaves later =
      let same : leaves.good ≡ later.good = same_good line other kind kind' leaves later in
      (omega (arith, leaves.place, later.place, same), same_kind line other kind kind' leaves later same)
