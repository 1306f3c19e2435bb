-- How a line follows on what was read, or why it can't.
use Rattle.std.proofs.Common.{ℕ, ◌≡◌, ◌≢◌, ◌<◌, true, false, List, [], ◌∷◌, ◌++◌, map, length, sym, refl, ap, ◌∙◌, subst, arith, append_assoc, length-append}
use Rattle.std.specs.List.{flat_map}
use Rattle.std.proofs.lemmas.Grind.{flat_map-append}
use Rattle.std.proofs.lemmas.List.{append-nil, length-map, map-append}
use Rattle.rows.specs.declared.call.Call.{Call}
use Rattle.session.specs.declared.fault.SessionKind.TheVariants.{BadSession, NotYet, TooManyWorkers, TooManyLines}
use Rattle.session.specs.declared.progress.Progress.{Progress}
use Rattle.session.specs.declared.progress.Stage.{Stage}
use Rattle.session.specs.declared.progress.Stage.TheVariants.{Setup as BeforeWorkers, Worker, Between, Done}
use Rattle.session.specs.declared.setup.Setup.{Setup}
use Rattle.session.specs.Forms.{AreBuiltLines, IsBuilt, HasFewWorkers, IsWithinLimits}
use Rattle.session.specs.Frame.{setup_text, IsSetup, BoardPart, Demo, Text, Frame, IsFrame, Begins, end_line, worker_lines, HasNoEnd}
use Rattle.session.specs.Grammar.{RefusesLine}
use Rattle.session.specs.Script.{IsScript, call_line}
use Rattle.session.specs.Inside.Progress.{is_demo, Fits, before_setup, worker_line, done_line, begun, calls_of, lines_read, IsAt, IsOutside, IsSound, Reads}
use Rattle.session.proofs.Beginnings.{Fits-none, All-no_end, All-more, IsShort, calls_of-more, with_workers, frame_with, built_with, few_with, worker_begins}
use Rattle.session.proofs.Frames.{HasNoEnd-calls}
use Rattle.session.proofs.Places.{lines_to, to-more}
use Rattle.session.proofs.Refused.{between_refused, done_refused, worker_refused, setup_refused, call_refused, line_refused}
use Rattle.session.proofs.SetupLines.{IsSetupLine}

outside_begun : (stage : Stage) (script : List Call) → IsOutside stage → begun stage script ≡ []
outside_begun BeforeWorkers script out = refl
outside_begun Worker script out = absurd out
outside_begun Between script out = refl
outside_begun Done script out = absurd out

not_nil : (calls : List (List ℕ)) (line : List ℕ) (more : List (List ℕ)) → calls ++ line ∷ more ≢ []
not_nil [] line more same = cc
not_nil (c ∷ calls) line more same = cc

-- no call line is built on a board of its own
unbuilt_text : (board : BoardPart) → is_demo board ≡ false → (calls : List (List ℕ)) (line : List ℕ) (more : List (List ℕ)) → AreBuiltLines board (calls ++ line ∷ more) → ⊥
unbuilt_text Demo text calls line more built = absurd cc
unbuilt_text (Text lines) text calls line more built = not_nil calls line more built

-- on the built-in one those of no script aren't
unbuilt_demo : (board : BoardPart) → is_demo board ≡ true → (script : List Call) (line : List ℕ) → ((calls : List Call) (more : List (List ℕ)) → IsScript calls → map call_line calls ≢ map call_line script ++ line ∷ more) → (more : List (List ℕ)) → AreBuiltLines board (map call_line script ++ line ∷ more) → ⊥
unbuilt_demo Demo demo script line none more (calls, is_script, same) = none calls more is_script (sym same)
unbuilt_demo (Text lines) demo script line none more built = absurd cc

pub fits_demo : (board : BoardPart) (script : List Call) → is_demo board ≡ true → IsScript script → Fits board script
fits_demo Demo script demo is_script = is_script
fits_demo (Text lines) script demo is_script = absurd cc

pub between_left : (stage : Stage) → IsOutside stage → stage ≢ BeforeWorkers → stage ≡ Between
between_left BeforeWorkers out other = absurd (other refl)
between_left Worker out other = absurd out
between_left Between out other = refl
between_left Done out other = absurd out

outside_script : (stage : Stage) (scripts : List (List Call)) (script : List Call) → IsOutside stage → IsAt stage scripts script → script ≡ []
outside_script BeforeWorkers scripts script out at = at.1
outside_script Worker scripts script out at = absurd out
outside_script Between scripts script out at = at.1
outside_script Done scripts script out at = absurd out

module _ (board : BoardPart) (p : Progress) (sound : IsSound board p) where
  read-line : (begun' : List (List ℕ)) → begun p.stage p.script ≡ begun' → (line : List ℕ) → lines_read board p ++ line ∷ [] ≡ lines_to board p.setup (calls_of p.scripts) begun' ++ line ∷ []
  read-line begun' is line = ap (λ x. lines_to board p.setup (calls_of p.scripts) x ++ line ∷ []) is

  begins-line : (P : Frame → Type 0) (begun' : List (List ℕ)) → begun p.stage p.script ≡ begun' → (line : List ℕ) → Begins P (lines_to board p.setup (calls_of p.scripts) (begun' ++ line ∷ [])) → Begins P (lines_read board p ++ line ∷ [])
  begins-line P begun' is line begins =
      subst (Begins P) (sym (read-line begun' is line ∙ to-more board p.setup (calls_of p.scripts) begun' (line ∷ []))) begins

  stage_is : (stage : Stage) → p.stage ≡ stage → IsAt stage p.scripts p.script
  stage_is stage is = subst (λ s. IsAt s p.scripts p.script) is sound.stage

  begun_is : (stage : Stage) → p.stage ≡ stage → begun p.stage p.script ≡ begun stage p.script
  begun_is stage is = ap (λ s. begun s p.script) is

  read-more : (begun' : List (List ℕ)) → begun p.stage p.script ≡ begun' → (line : List ℕ) → lines_to board p.setup (calls_of p.scripts) (begun' ++ line ∷ []) ≡ lines_read board p ++ line ∷ []
  read-more begun' is line = sym (read-line begun' is line ∙ to-more board p.setup (calls_of p.scripts) begun' (line ∷ []))

  -- the last line
  pub done_reads : IsOutside p.stage → (line : List ℕ) → line ≡ done_line → Reads board p line (record p { stage = Done })
  done_reads out line same = record {
    sound = record {
      is_board = sound.is_board;
      same = sound.same;
      setup = sound.setup;
      scripts = sound.scripts;
      script = sound.script;
      few = sound.few;
      short = sound.short;
      room = sound.room;
      stage = outside_script p.stage p.scripts p.script out sound.stage;
    };
    lines = ap (λ l. lines_to board p.setup (calls_of p.scripts) (l ∷ [])) (sym same) ∙ read-more [] (outside_begun p.stage p.script out) line;
  }

  -- a setup line
  pub setup_reads : p.stage ≡ BeforeWorkers → (setup : Setup) (line : List ℕ) → IsSetup setup → line ≡ setup_text setup → Reads board p line (record p { setup = p.setup ++ setup ∷ [] })
  setup_reads stage setup line is_setup same =
      let before = before_setup board in
      let none : flat_map worker_lines (calls_of p.scripts) ++ begun p.stage p.script ≡ [] = ap (λ s. flat_map worker_lines (calls_of s) ++ begun p.stage p.script) (stage_is BeforeWorkers stage).0 ∙ begun_is BeforeWorkers stage in
      let old : lines_read board p ≡ before ++ map setup_text p.setup = ap (λ t. before ++ (map setup_text p.setup ++ t)) none ∙ ap (λ t. before ++ t) (append-nil (map setup_text p.setup)) in
      let texts : map setup_text (p.setup ++ setup ∷ []) ≡ map setup_text p.setup ++ line ∷ [] = map-append setup_text p.setup (setup ∷ []) ∙ ap (λ l. map setup_text p.setup ++ l ∷ []) (sym same) in
      record {
        sound = record {
          is_board = sound.is_board;
          same = sound.same;
          setup = All-more IsSetup p.setup setup sound.setup is_setup;
          scripts = sound.scripts;
          script = sound.script;
          few = sound.few;
          short = sound.short;
          room = sound.room;
          stage = sound.stage;
        };
        lines = ap (λ t. before ++ (map setup_text (p.setup ++ setup ∷ []) ++ t)) none ∙ ap (λ t. before ++ t) (append-nil (map setup_text (p.setup ++ setup ∷ [])) ∙ texts) ∙ sym (append_assoc before (map setup_text p.setup) (line ∷ [])) ∙ ap (λ t. t ++ line ∷ []) (sym old);
      }

  -- the first line of a worker
  pub worker_reads : IsOutside p.stage → length p.scripts ≢ 16 → Reads board p worker_line (record p { stage = Worker })
  worker_reads out room = record {
    sound = record {
      is_board = sound.is_board;
      same = sound.same;
      setup = sound.setup;
      scripts = sound.scripts;
      script = sound.script;
      few = sound.few;
      short = sound.short;
      room = sound.room;
      stage = omega (arith, sound.few, room);
    };
    lines = ap (λ s. lines_to board p.setup (calls_of p.scripts) (worker_line ∷ map call_line s)) (outside_script p.stage p.scripts p.script out sound.stage) ∙ read-more [] (outside_begun p.stage p.script out) worker_line;
  }

  -- a call line
  pub call_reads : p.stage ≡ Worker → p.demo ≡ true → (call : Call) (line : List ℕ) → IsScript (p.script ++ call ∷ []) → line ≡ call_line call → length p.script ≢ 4096 → Reads board p line (record p { script = p.script ++ call ∷ [] })
  call_reads stage demo call line is_script same room =
      let calls : map call_line (p.script ++ call ∷ []) ≡ map call_line p.script ++ line ∷ [] = map-append call_line p.script (call ∷ []) ∙ ap (λ l. map call_line p.script ++ l ∷ []) (sym same) in
      record {
        sound = record {
          is_board = sound.is_board;
          same = sound.same;
          setup = sound.setup;
          scripts = sound.scripts;
          script = fits_demo board (p.script ++ call ∷ []) (sound.same ∙ demo) is_script;
          few = sound.few;
          short = sound.short;
          room = omega (arith, sound.room, room, length-append p.script (call ∷ []));
          stage = subst (λ s. IsAt s p.scripts (p.script ++ call ∷ [])) (sym stage) (stage_is Worker stage);
        };
        lines = ap (λ s. lines_to board p.setup (calls_of p.scripts) (begun s (p.script ++ call ∷ []))) stage ∙ ap (λ l. lines_to board p.setup (calls_of p.scripts) (worker_line ∷ l)) calls ∙ read-more (worker_line ∷ map call_line p.script) (begun_is Worker stage) line;
      }

  -- the last line of a worker
  pub end_reads : p.stage ≡ Worker → Reads board p end_line (record { stage = Between; demo = p.demo; setup = p.setup; scripts = p.scripts ++ p.script ∷ []; script = [] })
  end_reads stage =
      let room : length p.scripts < 16 = stage_is Worker stage in
      let calls = map call_line p.script in
      let lines : flat_map worker_lines (calls_of p.scripts ++ calls ∷ []) ++ [] ≡ flat_map worker_lines (calls_of p.scripts) ++ worker_lines calls = append-nil (flat_map worker_lines (calls_of p.scripts ++ calls ∷ [])) ∙ flat_map-append worker_lines (calls_of p.scripts) (calls ∷ []) ∙ ap (λ t. flat_map worker_lines (calls_of p.scripts) ++ t) (append-nil (worker_lines calls)) in
      record {
        sound = record {
          is_board = sound.is_board;
          same = sound.same;
          setup = sound.setup;
          scripts = All-more (Fits board) p.scripts p.script sound.scripts sound.script;
          script = Fits-none board;
          few = omega (arith, room, length-append p.scripts (p.script ∷ []));
          short = All-more IsShort p.scripts p.script sound.short sound.room;
          room = omega arith;
          stage = (omega (arith, length-append p.scripts (p.script ∷ [])), refl);
        };
        lines = ap (λ ws. lines_to board p.setup ws []) (calls_of-more p.scripts p.script) ∙ ap (λ t. before_setup board ++ (map setup_text p.setup ++ t)) lines ∙ read-more (worker_line ∷ calls) (begun_is Worker stage) end_line;
      }

  pub worker_too_many : IsOutside p.stage → length p.scripts ≡ 16 → RefusesLine TooManyWorkers (lines_read board p ++ worker_line ∷ [])
  worker_too_many out full =
      let is = outside_begun p.stage p.script out in
      let fit = All-more (Fits board) p.scripts [] sound.scripts (Fits-none board) in
      let built : IsBuilt (with_workers board p.setup (calls_of p.scripts ++ [] ∷ [])) = subst (λ ws. IsBuilt (with_workers board p.setup ws)) (calls_of-more p.scripts []) (built_with board p.setup sound.is_board sound.setup (p.scripts ++ [] ∷ []) fit) in
      (begins-line IsBuilt [] is worker_line (worker_begins board p.setup IsBuilt (calls_of p.scripts) [] built), λ begins. worker_refused board p.setup (calls_of p.scripts) sound.is_board sound.setup (All-no_end p.scripts) (omega (arith, full, length-map p.scripts (map call_line))) (subst (Begins HasFewWorkers) (read-line [] is worker_line) begins))

  pub setup_bad : p.stage ≡ BeforeWorkers → (line : List ℕ) → line ≢ worker_line → line ≢ done_line → (IsSetupLine line → ⊥) → RefusesLine BadSession (lines_read board p ++ line ∷ [])
  setup_bad stage line not_worker not_done not_setup begins =
      setup_refused board p.setup (calls_of p.scripts) sound.is_board sound.setup (All-no_end p.scripts) line (ap calls_of (stage_is BeforeWorkers stage).0) not_worker not_done not_setup (subst (Begins IsFrame) (read-line [] (begun_is BeforeWorkers stage) line) begins)

  pub between_bad : p.stage ≡ Between → (line : List ℕ) → line ≢ worker_line → line ≢ done_line → RefusesLine BadSession (lines_read board p ++ line ∷ [])
  between_bad stage line not_worker not_done begins =
      let some : 0 < length p.scripts = (stage_is Between stage).0 in
      between_refused board p.setup (calls_of p.scripts) sound.is_board sound.setup (All-no_end p.scripts) line (omega (arith, some, length-map p.scripts (map call_line))) not_worker not_done (subst (Begins IsFrame) (read-line [] (begun_is Between stage) line) begins)

  pub done_bad : p.stage ≡ Done → (line : List ℕ) → RefusesLine BadSession (lines_read board p ++ line ∷ [])
  done_bad stage line begins =
      done_refused board p.setup (calls_of p.scripts) sound.is_board sound.setup (All-no_end p.scripts) line (subst (Begins IsFrame) (read-line (done_line ∷ []) (begun_is Done stage) line) begins)

  module _ (stage : p.stage ≡ Worker) (line : List ℕ) (other : line ≢ end_line) where
    call_begins : Begins IsFrame (lines_read board p ++ line ∷ [])
    call_begins =
        let calls = map call_line p.script ++ line ∷ [] in
        let no_end : HasNoEnd calls = All-more (λ l. l ≢ end_line) (map call_line p.script) line (HasNoEnd-calls p.script) other in
        begins-line IsFrame (worker_line ∷ map call_line p.script) (begun_is Worker stage) line (worker_begins board p.setup IsFrame (calls_of p.scripts) calls (frame_with board p.setup sound.is_board sound.setup (calls_of p.scripts ++ calls ∷ []) (All-more HasNoEnd (calls_of p.scripts) calls (All-no_end p.scripts) no_end)))

    unbuilt : ((more : List (List ℕ)) → AreBuiltLines board (map call_line p.script ++ line ∷ more) → ⊥) → RefusesLine NotYet (lines_read board p ++ line ∷ [])
    unbuilt none =
        (call_begins, λ begins. call_refused board p.setup (calls_of p.scripts) sound.is_board sound.setup (All-no_end p.scripts) (map call_line p.script) line (HasNoEnd-calls p.script) other none (subst (Begins IsBuilt) (read-line (worker_line ∷ map call_line p.script) (begun_is Worker stage) line) begins))

    pub call_unbuilt_text : p.demo ≡ false → RefusesLine NotYet (lines_read board p ++ line ∷ [])
    call_unbuilt_text text = unbuilt (unbuilt_text board (sound.same ∙ text) (map call_line p.script) line)

    pub call_unbuilt_demo : p.demo ≡ true → ((calls : List Call) (more : List (List ℕ)) → IsScript calls → map call_line calls ≢ map call_line p.script ++ line ∷ more) → RefusesLine NotYet (lines_read board p ++ line ∷ [])
    call_unbuilt_demo demo none = unbuilt (unbuilt_demo board (sound.same ∙ demo) p.script line none)

    pub line_too_many : p.demo ≡ true → (call : Call) → IsScript (p.script ++ call ∷ []) → line ≡ call_line call → length p.script ≡ 4096 → RefusesLine TooManyLines (lines_read board p ++ line ∷ [])
    line_too_many demo call is_script same full =
        let script = p.script ++ call ∷ [] in
        let room : length p.scripts < 16 = stage_is Worker stage in
        let fit = All-more (Fits board) p.scripts script sound.scripts (fits_demo board script (sound.same ∙ demo) is_script) in
        let few : HasFewWorkers (with_workers board p.setup (calls_of (p.scripts ++ script ∷ []))) = few_with board p.setup sound.is_board sound.setup (p.scripts ++ script ∷ []) fit (omega (arith, room, length-append p.scripts (script ∷ []))) in
        let lines : calls_of (p.scripts ++ script ∷ []) ≡ calls_of p.scripts ++ (map call_line p.script ++ line ∷ []) ∷ [] = calls_of-more p.scripts script ∙ ap (λ x. calls_of p.scripts ++ x ∷ []) (map-append call_line p.script (call ∷ []) ∙ ap (λ l. map call_line p.script ++ l ∷ []) (sym same)) in
        (begins-line HasFewWorkers (worker_line ∷ map call_line p.script) (begun_is Worker stage) line (worker_begins board p.setup HasFewWorkers (calls_of p.scripts) (map call_line p.script ++ line ∷ []) (subst (λ ws. HasFewWorkers (with_workers board p.setup ws)) lines few)), λ begins. line_refused board p.setup (calls_of p.scripts) sound.is_board sound.setup (All-no_end p.scripts) (map call_line p.script) line (HasNoEnd-calls p.script) other (omega (arith, full, length-map p.script call_line)) (subst (Begins IsWithinLimits) (read-line (worker_line ∷ map call_line p.script) (begun_is Worker stage) line) begins))
