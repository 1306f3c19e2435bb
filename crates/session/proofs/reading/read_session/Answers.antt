use Rattle.std.proofs.Common.{◌∙◌, List, length, refl, ap, subst, arith}
use Rattle.std.specs.Option.{option_copied}
use Rattle.std.proofs.lemmas.Result.{err_from_is_err_and}
use Rattle.session.specs.declared.setup.Setup.{Setup}
use Rattle.session.specs.Loading.{refusals_in}
use Rattle.session.specs.Inside.Loaded.{IsLoaded, IsRefused}
use Rattle.session.proofs.Playable.{playable}
use Rattle.session.proofs.SessionParts.{text_fits, setup_fits, session_is, fault_first}
use Rattle.session.proofs.reading.read_session.Goals as goal

pub load_board-requires-clause-short : goal.load_board-requires-clause-short
load_board-requires-clause-short c = text_fits c.args.bytes.now _ c.if-bytes-gt-SESSION_LIMIT.false c.in_ok-frame.ensures.frame

pub load_board-requires-clause-few : goal.load_board-requires-clause-few
load_board-requires-clause-few c =
    let fits = setup_fits c.args.bytes.now _ c.if-bytes-gt-SESSION_LIMIT.false c.in_ok-frame.ensures.frame in
    omega (arith, fits, ap length c.as_slice.ensures)

pub returns-in_err-loaded-clause-fault : goal.returns-in_err-loaded-clause-fault
returns-in_err-loaded-clause-fault c =
    let p = err_from_is_err_and c.from_residual-in_err-loaded.result c.from_residual-in_err-loaded.ensures.1 in
    let frame = c.in_ok-frame.frame in
    let fault = c.in_err-loaded.field-0.0 in
    rw (p.1, p.2) (λ ne. fault_first c.args.bytes.now _ c.if-bytes-gt-SESSION_LIMIT.false c.in_ok-frame.ensures.frame fault
    (subst (λ (setup : List Setup). IsRefused (option_copied frame.text) setup fault) c.as_slice.ensures (c.in_err-loaded.ensures.fault ne)))

pub returns-clause-session : goal.returns-clause-session
returns-clause-session c =
    let frame = c.in_ok-frame.frame in
    session_is c.args.bytes.now _ c.if-bytes-gt-SESSION_LIMIT.false c.in_ok-frame.ensures.frame
    (record { loaded = c.in_ok-loaded.loaded; refusals = c.in_ok-refusals.refusals; scripts = frame.scripts })
    (subst (λ (setup : List Setup). IsLoaded (option_copied frame.text) setup c.in_ok-loaded.loaded) c.as_slice.ensures c.in_ok-loaded.ensures.loaded)
    (c.in_ok-refusals.ensures ∙ ap refusals_in c.as_slice-2.ensures) refl

pub returns-clause-playable : goal.returns-clause-playable
returns-clause-playable c =
    let frame = c.in_ok-frame.frame in
    playable c.args.bytes.now _ c.in_ok-loaded.loaded c.in_ok-frame.ensures.frame
    (subst (λ (setup : List Setup). IsLoaded (option_copied frame.text) setup c.in_ok-loaded.loaded) c.as_slice.ensures c.in_ok-loaded.ensures.loaded)
    c.in_ok-loaded.ensures.valid
