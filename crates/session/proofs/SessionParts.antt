-- What the parts of a text make of it: a session, or its first fault.
use Rattle.std.proofs.Common.{◌≡◌, ℕ, ◌≤◌, List, length, map, sym, ap, ◌∙◌, subst, arith, ⊎_elim, inl, inr}
use Rattle.std.specs.Prelude.{Ok, Err, Option, ◌+◌, All, IfSome}
use Rattle.std.proofs.lemmas.Option.{IfSome_then}
use Rattle.board_draft.specs.declared.drafted.Drafted.{Drafted}
use Rattle.board_load.specs.Loading.{load}
use Rattle.session.specs.declared.fault.SessionFault.{SessionFault}
use Rattle.session.specs.declared.session.Session.{Session}
use Rattle.session.specs.Lines.{unended}
use Rattle.session.specs.Loading.{found_regs, refusals_in, setup_fault, loading_fault, lines_before_setup}
use Rattle.session.specs.Script.{IsScript, call_line}
use Rattle.session.specs.Session.{session_limit, HasFrame, HasBoard, IsSession, FirstFault}
use Rattle.session.specs.Inside.Loaded.{TextComes, lines_before, IsLoaded, IsRefused}
use Rattle.session.specs.Inside.Read.{Parts, IsRead, board_text}
use Rattle.session.proofs.FrameParts.{before_is, text_short, setup_few, comes}

module _ (bytes : List ℕ) (parts : Parts) (short : length bytes ≤ session_limit) (read : IsRead bytes parts) where
  framed : HasFrame bytes read.frame
  framed = record { short = short; lines = read.is_frame }

  -- no part is longer than the text may be
  pub text_fits : IfSome parts.text (λ text. length text ≤ session_limit)
  text_fits =
      subst (λ (text : Option (List ℕ)). IfSome text (λ t. length t ≤ session_limit)) (sym read.text)
      (IfSome_then (board_text read.frame.board) (text_short bytes (unended bytes) read.frame read.is_frame) (λ text fits. omega (arith, fits, short)))

  before_same : lines_before parts.text ≡ lines_before_setup read.frame
  before_same = ap lines_before read.text ∙ before_is bytes (unended bytes) read.frame read.is_frame

  pub setup_fits : lines_before parts.text + length parts.setup ≤ session_limit
  setup_fits = omega (arith, before_same, ap length read.setup, setup_few bytes (unended bytes) read.frame read.is_frame, short)

  -- the first fault behind the board, by the frame
  fault_is : (drafted : Drafted) → setup_fault (lines_before parts.text) parts.setup drafted ≡ loading_fault read.frame drafted
  fault_is drafted =
      ap (λ n. setup_fault n parts.setup drafted) before_same
      ∙ ap (λ setup. setup_fault (lines_before_setup read.frame) setup drafted) read.setup

  boarded : (drafted : Drafted) → TextComes parts.text (Ok drafted) → HasBoard bytes read.frame drafted
  boarded drafted come = record { has_frame = framed; board = comes read.frame.board (Ok drafted) (subst (λ text. TextComes text (Ok drafted)) read.text come) }

  pub session_is : (session : Session) → IsLoaded parts.text parts.setup session.loaded → session.refusals ≡ refusals_in parts.setup → session.scripts ≡ parts.scripts → IsSession bytes session
  session_is session made refusals scripts = record {
    frame = read.frame;
    drafted = made.drafted;
    has = boarded made.drafted made.board;
    none = sym (fault_is made.drafted) ∙ made.none;
    loaded = ap (λ setup. load made.drafted.board (found_regs made.drafted setup)) (sym read.setup) ∙ made.made;
    refusals = refusals ∙ ap refusals_in read.setup;
    scripts = read.scripts ∙ ap (map (map call_line)) (sym scripts);
    calls = subst (All IsScript) (sym scripts) read.calls;
  }

  pub fault_first : (fault : SessionFault) → IsRefused parts.text parts.setup fault → FirstFault bytes fault
  fault_first fault refused = ⊎_elim
      (λ come. inr (inr (inl (record { frame = read.frame; has = framed; board = comes read.frame.board (Err fault) (subst (λ text. TextComes text (Err fault)) read.text come) }))))
      (λ made. inr (inr (inr (record { frame = read.frame; drafted = made.drafted; has = boarded made.drafted made.board; refused = sym (fault_is made.drafted) ∙ made.refused }))))
      refused
