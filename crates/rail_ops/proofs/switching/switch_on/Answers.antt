use Rattle.std.proofs.Common.{◌<◌, List, ℕ, length, slice_get, sym, ap, ◌∙◌, subst}
use Rattle.std.specs.Prelude.{Contains, ◌++◌, ◌∷◌, []}
use Rattle.board.specs.declared.board.Board.{Board}
use Rattle.board.specs.declared.event.Event.TheVariants.{Enable as TellsEnable}
use Rattle.board.specs.Valid.{IsValid}
use Rattle.rail_ops.specs.Sight.{shown_by}
use Rattle.rail_ops.proofs.Upheld.{enable_is_field, enable_has_room, upheld_still, votes_held, votes_room, switched_on}
use Rattle.rail_ops.proofs.switching.switch_on.Goals as goal

pub try_update-requires-clause-field : goal.try_update-requires-clause-field
try_update-requires-clause-field g c = enable_is_field c.args.board.now c.requires.valid c.args.r.0 c.rail_at-rail.result.now c.rail_at-rail.ensures

pub try_update-requires-clause-room : goal.try_update-requires-clause-room
try_update-requires-clause-room g c = enable_has_room c.args.board.now c.requires.valid c.args.r.0 c.rail_at-rail.result.now c.rail_at-rail.ensures

pub raise-requires-clause-owned : goal.raise-requires-clause-owned
raise-requires-clause-owned g c i guards = subst (λ (rs : List ℕ). Contains rs i) (sym c.in_ok-tell.ensures.ok.rails) (c.requires.owned i guards)

pub raise-requires-clause-supplied : goal.raise-requires-clause-supplied
raise-requires-clause-supplied g c =
    let first = shown_by g.R.Rails.board g.R.Rails.rails g.R.Rails.bits g.R.Rails.states c.args.rails.now in
    let told = shown_by g.R.Rails.board g.R.Rails.rails g.R.Rails.bits g.R.Rails.states c.tell.new.rails in
    upheld_still first told c.args.r.0 (record (first.books c.args.r.0) { events = (first.books c.args.r.0).events ++ TellsEnable ∷ [] }) (subst IsValid (sym c.requires.board) c.requires.valid)
    (subst (λ (b : Board). c.args.r.0 < length b.rails) (sym c.requires.board) c.requires.there) c.in_ok-tell.ensures.ok c.requires.supplied

pub vote-requires-clause-held : goal.vote-requires-clause-held
vote-requires-clause-held g c =
    let first = shown_by g.R.Rails.board g.R.Rails.rails g.R.Rails.bits g.R.Rails.states c.args.rails.now in
    let told = shown_by g.R.Rails.board g.R.Rails.rails g.R.Rails.bits g.R.Rails.states c.tell.new.rails in
    let up = shown_by g.R.Rails.board g.R.Rails.rails g.R.Rails.bits g.R.Rails.states c.raise.new.rails in
    votes_held first told up (subst IsValid (sym c.requires.board) c.requires.valid) c.args.r.0 c.rail_at-rail.result.now
    (ap (λ (b : Board). slice_get b.rails c.args.r.0) c.requires.board ∙ c.rail_at-rail.ensures) c.in_ok-tell.ensures.ok c.raise.ensures.bit c.requires.supplied

pub vote-requires-clause-room : goal.vote-requires-clause-room
vote-requires-clause-room g c =
    let first = shown_by g.R.Rails.board g.R.Rails.rails g.R.Rails.bits g.R.Rails.states c.args.rails.now in
    let told = shown_by g.R.Rails.board g.R.Rails.rails g.R.Rails.bits g.R.Rails.states c.tell.new.rails in
    let up = shown_by g.R.Rails.board g.R.Rails.rails g.R.Rails.bits g.R.Rails.states c.raise.new.rails in
    votes_room first told up (subst IsValid (sym c.requires.board) c.requires.valid) c.args.r.0 c.rail_at-rail.result.now
    (ap (λ (b : Board). slice_get b.rails c.args.r.0) c.requires.board ∙ c.rail_at-rail.ensures) c.in_ok-tell.ensures.ok c.raise.ensures.bit c.requires.supplied

pub returns-clause-made : goal.returns-clause-made
returns-clause-made g c made =
    let first = shown_by g.R.Rails.board g.R.Rails.rails g.R.Rails.bits g.R.Rails.states c.args.rails.now in
    let told = shown_by g.R.Rails.board g.R.Rails.rails g.R.Rails.bits g.R.Rails.states c.tell.new.rails in
    let up = shown_by g.R.Rails.board g.R.Rails.rails g.R.Rails.bits g.R.Rails.states c.raise.new.rails in
    let last = shown_by g.R.Rails.board g.R.Rails.rails g.R.Rails.bits g.R.Rails.states c.vote.new.rails in
    switched_on first told up (subst IsValid (sym c.requires.board) c.requires.valid) c.args.r.0 c.rail_at-rail.result.now
    (ap (λ (b : Board). slice_get b.rails c.args.r.0) c.requires.board ∙ c.rail_at-rail.ensures) c.in_ok-tell.ensures.ok c.raise.ensures.bit last c.vote.ensures.vote
