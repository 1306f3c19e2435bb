-- Which lines can follow which in a session.
use Rattle.std.proofs.Common.{ℕ, ◌≡◌, ◌≢◌, List, [], ◌∷◌, ◌++◌, map, codes, All, true, false, sym, refl, ap, ◌∙◌, append_assoc, eqb, get_or}
use Rattle.std.specs.List.{flat_map}
use Rattle.std.proofs.lemmas.Bool.{eqb-false}
use Rattle.std.proofs.lemmas.List.Elements.{All-head, All-map}
use Rattle.rows.specs.declared.call.Call.{Call}
use Rattle.rows.specs.declared.call.Call.TheVariants.{Open}
use Rattle.session.specs.declared.setup.Setup.{Setup}
use Rattle.session.specs.declared.setup.Setup.TheVariants.{Register, Refusal}
use Rattle.session.specs.Frame.{setup_text, IsSetup, BoardPart, Demo, Text, end_line, board_lines, worker_lines, HasNoEnd}
use Rattle.session.specs.Script.{call_line}
use Rattle.session.specs.Inside.Progress.{done_line, worker_line}
use Rattle.session.proofs.SetupLines.{IsSetupLine}
use Rattle.rows.proofs.Separators.{head_is, tail_is}

abbrev pub first_line : List ℕ
first_line = codes "%session 1"

abbrev pub demo_line : List ℕ
demo_line = codes "%board demo"

abbrev pub dts_line : List ℕ
dts_line = codes "%board dts"

-- what follows the board
abbrev pub after_board : List Setup → List (List (List ℕ)) → List (List ℕ)
after_board setup workers = map setup_text setup ++ (flat_map worker_lines workers ++ done_line ∷ [])

-- two texts that differ at a place
pub differ_at : (at : ℕ) (xs ys : List ℕ) → eqb (get_or xs at 0) (get_or ys at 0) ≡ false → xs ≢ ys
differ_at at xs ys apart same = eqb-false (get_or xs at 0) (get_or ys at 0) apart (ap (λ zs. get_or zs at 0) same)

-- the lines that stand between the keywords differ from them
pub call-≢-end : (call : Call) → call_line call ≢ end_line
call-≢-end (Open handle rail true) same = differ_at 0 (call_line (Open handle rail true)) end_line refl same
call-≢-end (Open handle rail false) same = differ_at 0 (call_line (Open handle rail false)) end_line refl same
call-≢-end call same = differ_at 0 (call_line call) end_line refl same

pub setup-≢-worker : (setup : Setup) → setup_text setup ≢ worker_line
setup-≢-worker (Register chip reg value) same = differ_at 1 (setup_text (Register chip reg value)) worker_line refl same
setup-≢-worker (Refusal worker update) same = differ_at 1 (setup_text (Refusal worker update)) worker_line refl same

pub setup-≢-done : (setup : Setup) → setup_text setup ≢ done_line
setup-≢-done (Register chip reg value) same = differ_at 1 (setup_text (Register chip reg value)) done_line refl same
setup-≢-done (Refusal worker update) same = differ_at 1 (setup_text (Refusal worker update)) done_line refl same

-- no line of a call ends its worker
pub HasNoEnd-calls : (calls : List Call) → HasNoEnd (map call_line calls)
HasNoEnd-calls calls = All-map (λ line. line ≢ end_line) call_line calls (λ k d within. call-≢-end _)

-- a board begins with one of two lines
pub not_board : (board : BoardPart) (rest : List (List ℕ)) (line : List ℕ) (more : List (List ℕ)) → line ≢ demo_line → line ≢ dts_line → board_lines board ++ rest ≡ line ∷ more → ⊥
not_board Demo rest line more not_demo not_dts same = not_demo (sym (head_is same))
not_board (Text lines) rest line more not_demo not_dts same = not_dts (sym (head_is same))

-- a worker's lines, and what follows them
pub worker-assoc : (calls rest more : List (List ℕ)) → (worker_lines calls ++ rest) ++ more ≡ worker_line ∷ (calls ++ end_line ∷ (rest ++ more))
worker-assoc calls rest more =
    ap (λ x. worker_line ∷ x) (ap (λ x. x ++ more) (append_assoc calls (end_line ∷ []) rest) ∙ append_assoc calls (end_line ∷ rest) more)

-- after the board comes a setup line, a worker or the end
pub after_board_line : (setup : List Setup) (workers : List (List (List ℕ))) (line : List ℕ) (more : List (List ℕ)) → All IsSetup setup → line ≢ worker_line → line ≢ done_line → (IsSetupLine line → ⊥) → after_board setup workers ≡ line ∷ more → ⊥
after_board_line [] [] line more sound not_worker not_done not_setup same = not_done (sym (head_is same))
after_board_line [] (w ∷ workers) line more sound not_worker not_done not_setup same = not_worker (sym (head_is same))
after_board_line (s ∷ setup) workers line more sound not_worker not_done not_setup same =
    not_setup (s, All-head IsSetup s setup sound, sym (head_is same))

-- after a worker comes another or the end
pub after_worker_line : (others : List (List (List ℕ))) (line : List ℕ) (more : List (List ℕ)) → line ≢ worker_line → line ≢ done_line → flat_map worker_lines others ++ done_line ∷ [] ≡ line ∷ more → ⊥
after_worker_line [] line more not_worker not_done same = not_done (sym (head_is same))
after_worker_line (w ∷ others) line more not_worker not_done same = not_worker (sym (head_is same))

-- after `%done` comes nothing
pub after_worker_done : (others : List (List (List ℕ))) (line : List ℕ) (more : List (List ℕ)) → flat_map worker_lines others ++ done_line ∷ [] ≡ done_line ∷ line ∷ more → ⊥
after_worker_done [] line more same = cc
after_worker_done (w ∷ others) line more same = differ_at 1 worker_line done_line refl (head_is same)

-- a built session with a worker has its script
pub script_of : (scripts : List (List Call)) (more : List (List ℕ)) → after_board [] (map (map call_line) scripts) ≡ worker_line ∷ more → (script : List Call) × (others : List (List Call)) × (scripts ≡ script ∷ others) × (map call_line script ++ end_line ∷ (flat_map worker_lines (map (map call_line) others) ++ done_line ∷ []) ≡ more)
script_of [] more same = absurd (differ_at 1 done_line worker_line refl (head_is same))
script_of (s ∷ others) more same =
    let spelled : worker_line ∷ (map call_line s ++ end_line ∷ (flat_map worker_lines (map (map call_line) others) ++ done_line ∷ [])) ≡ worker_line ∷ more = sym (worker-assoc (map call_line s) (flat_map worker_lines (map (map call_line) others)) (done_line ∷ [])) ∙ same in
    (s, others, refl, tail_is spelled)
