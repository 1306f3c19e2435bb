use Rattle.std.proofs.Common.{sym, ap, ◌∙◌}
use Rattle.std.specs.Prelude.{slice_get, option_and_then}
use Rattle.plain_board.specs.Handles.{is_own}
use Rattle.regulator_main.proofs.Asking.{find-position, place_within}
use Rattle.regulator_main.proofs.requests.open_of.Goals as goal

pub entry_at-requires : goal.entry_at-requires
entry_at-requires c = place_within (is_own c.args.worker c.args.name.now.bytes) c.args.handles.now c.in-Some.at (sym c.place_of.ensures ∙ c.in-Some.is)

pub returns-in-Some : goal.returns-in-Some
returns-in-Some c =
    sym (find-position (is_own c.args.worker c.args.name.now.bytes) c.args.handles.now
    ∙ ap (option_and_then (slice_get c.args.handles.now)) (sym c.place_of.ensures ∙ c.in-Some.is) ∙ c.entry_at.ensures)

pub returns-in-None : goal.returns-in-None
returns-in-None c =
    sym (find-position (is_own c.args.worker c.args.name.now.bytes) c.args.handles.now
    ∙ ap (option_and_then (slice_get c.args.handles.now)) (sym c.place_of.ensures ∙ c.in-None.is))
