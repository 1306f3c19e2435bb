use Rattle.std.proofs.Common.{◌≡◌, ◌<◌, ◌∷◌, ◌++◌, [], false, List, Some, None, sym, ap, ◌∙◌, subst, arith, length, All}
use Rattle.std.specs.Prelude.{bytes_eq, if◌then◌else◌}
use Rattle.board.specs.declared.board.Board.{Board}
use Rattle.use_counts.specs.Book.{Book}
use Rattle.use_counts.specs.declared.handle_row.HandleRow.{HandleRow}
use Rattle.use_counts.specs.Uses.{is_row_of, rail_named}
use Rattle.rail_ops.specs.Inside.Opening.{rail_refusal}
use Rattle.rail_ops.specs.Inside.Raised.{ChangesBook}
use Rattle.rail_ops.specs.Sight.{shown_by}
use Rattle.rail_ops.proofs.Opened.{entered, few, none_same, own_calm, own_refused, rail_calm, rail_held, rail_refused, unnamed}
use Rattle.rail_ops.proofs.opening.open.Goals as goal

pub returns-in-Some-clause-answered : goal.returns-in-Some-clause-answered
returns-in-Some-clause-answered g c plain may_be =
    let first = shown_by g.R.Rails.board g.R.Rails.rails g.R.Rails.bits g.R.Rails.states c.args.rails.now in
    own_refused first c.args.mine.now c.args.worker c.args.handle c.args.r c.args.exclusive plain may_be c.in-Some.said (sym c.own_refusal.ensures ∙ c.in-Some.is)

pub returns-in-Some-clause-calm : goal.returns-in-Some-clause-calm
returns-in-Some-clause-calm g c = own_calm _ _ c.in-Some.said (sym c.own_refusal.ensures ∙ c.in-Some.is)

pub state-requires-clause-held : goal.state-requires-clause-held
state-requires-clause-held g c =
    let first = shown_by g.R.Rails.board g.R.Rails.rails g.R.Rails.bits g.R.Rails.states c.args.rails.now in
    let own_free = sym c.own_refusal.ensures ∙ c.in_default.is in
    rail_held first c.args.mine.now c.args.worker c.args.handle c.args.r c.args.exclusive c.requires.ready own_free

pub rail_refusal-requires : goal.rail_refusal-requires
rail_refusal-requires g c =
    let first = shown_by g.R.Rails.board g.R.Rails.rails g.R.Rails.bits g.R.Rails.states c.args.rails.now in
    let own_free = sym c.own_refusal.ensures ∙ c.in_default.is in
    let has = rail_held first c.args.mine.now c.args.worker c.args.handle c.args.r c.args.exclusive c.requires.ready own_free in
    let seen = c.rows-rows.ensures.rows ∙ ap (λ (b : Book). b.rows) c.state.ensures in
    let bound = few first c.args.mine.now c.args.worker c.args.handle c.args.r c.args.exclusive c.requires.ready.plain c.requires.ready.may_be own_free has
    (subst (All (λ row. row.worker < 65536)) seen c.have_numbers.ensures) in
    record { few = omega (arith, bound, ap (λ (rs : List HandleRow). length rs) seen) }

pub returns-in-Some-rail_refusal-clause-answered : goal.returns-in-Some-rail_refusal-clause-answered
returns-in-Some-rail_refusal-clause-answered g c plain may_be =
    let first = shown_by g.R.Rails.board g.R.Rails.rails g.R.Rails.bits g.R.Rails.states c.args.rails.now in
    let own_free = sym c.own_refusal.ensures ∙ c.in_default.is in
    let has = rail_held first c.args.mine.now c.args.worker c.args.handle c.args.r c.args.exclusive c.requires.ready own_free in
    let seen = c.rows-rows.ensures.rows ∙ ap (λ (b : Book). b.rows) c.state.ensures in
    rail_refused first c.args.mine.now c.args.worker c.args.handle c.args.r c.args.exclusive plain may_be own_free has c.in-Some-rail_refusal.said
    (ap (rail_refusal c.args.exclusive) (sym seen) ∙ sym c.rail_refusal.ensures ∙ c.in-Some-rail_refusal.is)

pub returns-in-Some-rail_refusal-clause-calm : goal.returns-in-Some-rail_refusal-clause-calm
returns-in-Some-rail_refusal-clause-calm g c = rail_calm c.args.exclusive c.rows-rows.result.now c.in-Some-rail_refusal.said (sym c.rail_refusal.ensures ∙ c.in-Some-rail_refusal.is)

pub enter-requires-clause-room : goal.enter-requires-clause-room
enter-requires-clause-room g c =
    let first = shown_by g.R.Rails.board g.R.Rails.rails g.R.Rails.bits g.R.Rails.states c.args.rails.now in
    let own_free = sym c.own_refusal.ensures ∙ c.in_default.is in
    let has = rail_held first c.args.mine.now c.args.worker c.args.handle c.args.r c.args.exclusive c.requires.ready own_free in
    let seen = c.rows-rows.ensures.rows ∙ ap (λ (b : Book). b.rows) c.state.ensures in
    let bound = few first c.args.mine.now c.args.worker c.args.handle c.args.r c.args.exclusive c.requires.ready.plain c.requires.ready.may_be own_free has
    (subst (All (λ row. row.worker < 65536)) seen c.have_numbers.ensures) in
    omega (arith, bound)

pub enter-requires-clause-new : goal.enter-requires-clause-new
enter-requires-clause-new g c =
    let first = shown_by g.R.Rails.board g.R.Rails.rails g.R.Rails.bits g.R.Rails.states c.args.rails.now in
    let own_free = sym c.own_refusal.ensures ∙ c.in_default.is in
    let has = rail_held first c.args.mine.now c.args.worker c.args.handle c.args.r c.args.exclusive c.requires.ready own_free in
    subst (λ (row : HandleRow). All (λ other. is_row_of other.worker other.handle.bytes row ≡ false) (first.books c.args.r.0).rows) (sym c.new_row.ensures)
    (none_same first c.args.mine.now c.args.worker c.args.handle c.args.r c.args.exclusive c.requires.ready.plain c.requires.ready.may_be own_free has)

pub enter-requires-clause-unnamed : goal.enter-requires-clause-unnamed
enter-requires-clause-unnamed g c =
    let first = shown_by g.R.Rails.board g.R.Rails.rails g.R.Rails.bits g.R.Rails.states c.args.rails.now in
    let own_free = sym c.own_refusal.ensures ∙ c.in_default.is in
    subst (λ (row : HandleRow). rail_named c.args.mine.now row.handle.bytes ≡ None) (sym c.new_row.ensures)
    (unnamed first c.args.mine.now c.args.worker c.args.handle c.args.r c.args.exclusive c.requires.ready.plain c.requires.ready.may_be own_free)

pub returns-clause-answered : goal.returns-clause-answered
returns-clause-answered g c plain may_be =
    let first = shown_by g.R.Rails.board g.R.Rails.rails g.R.Rails.bits g.R.Rails.states c.args.rails.now in
    let after = shown_by g.R.Rails.board g.R.Rails.rails g.R.Rails.bits g.R.Rails.states c.enter.new.rails in
    let own_free = sym c.own_refusal.ensures ∙ c.in_default.is in
    let has = rail_held first c.args.mine.now c.args.worker c.args.handle c.args.r c.args.exclusive c.requires.ready own_free in
    let seen = c.rows-rows.ensures.rows ∙ ap (λ (b : Book). b.rows) c.state.ensures in
    let r = c.args.r.0 in
    entered first c.args.mine.now c.args.worker c.args.handle c.args.r c.args.exclusive plain may_be own_free has
    (ap (rail_refusal c.args.exclusive) (sym seen) ∙ sym c.rail_refusal.ensures ∙ c.in_default-rail_refusal.is)
    (subst (λ (b : Board). r < length b.rails) (sym c.requires.board) c.requires.there) after c.enter.new.mine
    (subst (λ (row : HandleRow). ChangesBook r (record (first.books r) { rows = (first.books r).rows ++ row ∷ [] }) first after) c.new_row.ensures c.in_ok-enter.ensures.entered)
    (λ text. c.in_ok-enter.ensures.named text ∙ ap (λ (row : HandleRow). if bytes_eq row.handle.bytes text then Some r else rail_named c.args.mine.now text) c.new_row.ensures)
    c.in_ok-enter.ensures.more
