use Rattle.std.proofs.Common.{ap, ◌∙◌, sym}
use Rattle.std.specs.Prelude.{position, slice_get, option_map}
use Rattle.request_set.specs.Requests.{asked_by}
use Rattle.request_set.specs.Inside.{is_row_of}
use Rattle.request_set.proofs.Once.{asked_by_row, asked_by_none, asked_in}
use Rattle.request_set.proofs.request_set.RequestSet.request_of.Goals as goal

pub returns-in_err-at-clause-request : goal.returns-in_err-at-clause-request
returns-in_err-at-clause-request c =
    let worker = c.args.worker in
    let name = c.args.handle.now.bytes in
    c.from_residual.ensures
    ∙ sym (asked_by_none worker name c.self.inside.rows (ap (position (is_row_of worker name)) (sym c.as_slice.ensures) ∙ sym c.place_of.ensures ∙ c.in_err-at.was))
    ∙ ap (asked_by worker name) c.self.view_is

pub returns-clause-request : goal.returns-clause-request
returns-clause-request c =
    let worker = c.args.worker in
    let name = c.args.handle.now.bytes in
    c.asked_at.ensures
    ∙ ap (λ rows. option_map asked_in (slice_get rows c.in_ok-at.at)) c.as_slice-2.ensures
    ∙ asked_by_row worker name c.self.inside.rows c.in_ok-at.at (ap (position (is_row_of worker name)) (sym c.as_slice.ensures) ∙ sym c.place_of.ensures ∙ c.in_ok-at.was)
    ∙ ap (asked_by worker name) c.self.view_is
