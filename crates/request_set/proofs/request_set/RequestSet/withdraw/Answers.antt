use Rattle.std.proofs.Common.{◌≡◌, map, sym, ap, ◌∙◌, subst}
use Rattle.std.specs.Prelude.{position}
use Rattle.request_set.specs.Requests.{without}
use Rattle.request_set.specs.Inside.{asking_of, is_row_of, AreKept}
use Rattle.request_set.proofs.Once.{without_row, without_none, kept_without}
use Rattle.request_set.proofs.request_set.RequestSet.withdraw.Goals as goal

-- what is left where the handle had a row
left : (c : goal.After-remove) → map asking_of c.remove.new.self ≡ without c.args.worker c.args.handle.now.bytes (map asking_of c.self.inside.rows)
left c =
    ap (map asking_of) c.remove.ensures.rest
    ∙ without_row c.args.worker c.args.handle.now.bytes c.self.inside.rows c.in-Some.at c.self.invariant.once
    (ap (position (is_row_of c.args.worker c.args.handle.now.bytes)) (sym c.as_slice.ensures) ∙ sym c.place_of.ensures ∙ c.in-Some.is)

pub invariant_of-self : goal.invariant_of-self
invariant_of-self c = subst AreKept (sym (left c)) (kept_without c.args.worker c.args.handle.now.bytes (map asking_of c.self.inside.rows) c.self.invariant)

pub returns-in-Some : goal.returns-in-Some
returns-in-Some c = left c ∙ ap (without c.args.worker c.args.handle.now.bytes) c.self.view_is

pub returns-in_default : goal.returns-in_default
returns-in_default c =
    let worker = c.args.worker in
    let name = c.args.handle.now.bytes in
    sym c.self.view_is
    ∙ without_none worker name c.self.inside.rows (ap (position (is_row_of worker name)) (sym c.as_slice.ensures) ∙ sym c.place_of.ensures ∙ c.in_default.is)
    ∙ ap (without worker name) c.self.view_is
