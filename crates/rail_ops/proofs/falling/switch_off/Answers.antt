use Rattle.std.proofs.Common.{◌<◌, List, ℕ, ◌++◌, ◌∷◌, [], length, slice_get, refl, sym, ap, ◌∙◌, subst, arith}
use Rattle.std.specs.Prelude.{Contains}
use Rattle.board.specs.declared.board.Board.{Board}
use Rattle.board.specs.declared.event.Event.TheVariants.{AbortDisable, PreDisable}
use Rattle.board.specs.Valid.{IsValid}
use Rattle.rail_ops.specs.Sight.{shown_by}
use Rattle.rail_ops.proofs.GoesOff.{free_still, switched_off, told_last, unvotes_held, unvotes_some}
use Rattle.rail_ops.proofs.Upheld.{enable_has_room, enable_is_field}
use Rattle.rail_ops.proofs.falling.switch_off.Goals as goal

pub try_update-requires-clause-field : goal.try_update-requires-clause-field
try_update-requires-clause-field g c = enable_is_field c.args.board.now c.requires.valid c.args.r.0 c.rail_at-rail.result.now c.rail_at-rail.ensures

pub try_update-requires-clause-room : goal.try_update-requires-clause-room
try_update-requires-clause-room g c = let room = enable_has_room c.args.board.now c.requires.valid c.args.r.0 c.rail_at-rail.result.now c.rail_at-rail.ensures in omega (arith, room)

pub lower-requires-clause-owned : goal.lower-requires-clause-owned
lower-requires-clause-owned g c i guards = subst (λ (rs : List ℕ). Contains rs i) (sym c.in_ok-tell_abort.ensures.ok.rails) (c.requires.owned i guards)

pub lower-requires-clause-free : goal.lower-requires-clause-free
lower-requires-clause-free g c =
    let first = shown_by g.R.Rails.board g.R.Rails.rails g.R.Rails.bits g.R.Rails.states c.args.rails.now in
    let told = shown_by g.R.Rails.board g.R.Rails.rails g.R.Rails.bits g.R.Rails.states c.tell_abort.new.rails in
    free_still first told c.args.r.0 (record (first.books c.args.r.0) { events = (first.books c.args.r.0).events ++ PreDisable ∷ AbortDisable ∷ [] }) (subst IsValid (sym c.requires.board) c.requires.valid)
    (subst (λ (b : Board). c.args.r.0 < length b.rails) (sym c.requires.board) c.requires.there) c.in_ok-tell_abort.ensures.ok c.requires.free

pub unvote-requires-clause-held : goal.unvote-requires-clause-held
unvote-requires-clause-held g c =
    let first = shown_by g.R.Rails.board g.R.Rails.rails g.R.Rails.bits g.R.Rails.states c.args.rails.now in
    let told = shown_by g.R.Rails.board g.R.Rails.rails g.R.Rails.bits g.R.Rails.states c.tell_abort.new.rails in
    let down = shown_by g.R.Rails.board g.R.Rails.rails g.R.Rails.bits g.R.Rails.states c.lower.new.rails in
    let again = shown_by g.R.Rails.board g.R.Rails.rails g.R.Rails.bits g.R.Rails.states c.retell.new.rails in
    let valid = subst IsValid (sym c.requires.board) c.requires.valid in
    let at = ap (λ (b : Board). slice_get b.rails c.args.r.0) c.requires.board ∙ c.rail_at-rail.ensures in
    let last = told_last first told down valid c.args.r.0 c.rail_at-rail.result.now at c.in_ok-tell_abort.ensures.ok c.lower.ensures.bit in
    unvotes_held first told down valid c.args.r.0 c.rail_at-rail.result.now at c.in_ok-tell_abort.ensures.ok c.lower.ensures.bit again
    (c.retell.ensures.book ((first.books c.args.r.0).events ++ PreDisable ∷ []) AbortDisable last) c.requires.free

pub unvote-requires-clause-some : goal.unvote-requires-clause-some
unvote-requires-clause-some g c =
    let first = shown_by g.R.Rails.board g.R.Rails.rails g.R.Rails.bits g.R.Rails.states c.args.rails.now in
    let told = shown_by g.R.Rails.board g.R.Rails.rails g.R.Rails.bits g.R.Rails.states c.tell_abort.new.rails in
    let down = shown_by g.R.Rails.board g.R.Rails.rails g.R.Rails.bits g.R.Rails.states c.lower.new.rails in
    let again = shown_by g.R.Rails.board g.R.Rails.rails g.R.Rails.bits g.R.Rails.states c.retell.new.rails in
    let valid = subst IsValid (sym c.requires.board) c.requires.valid in
    let at = ap (λ (b : Board). slice_get b.rails c.args.r.0) c.requires.board ∙ c.rail_at-rail.ensures in
    let last = told_last first told down valid c.args.r.0 c.rail_at-rail.result.now at c.in_ok-tell_abort.ensures.ok c.lower.ensures.bit in
    unvotes_some first told down valid c.args.r.0 c.rail_at-rail.result.now at c.in_ok-tell_abort.ensures.ok c.lower.ensures.bit again
    (c.retell.ensures.book ((first.books c.args.r.0).events ++ PreDisable ∷ []) AbortDisable last) c.requires.free

pub returns-clause-made : goal.returns-clause-made
returns-clause-made g c made =
    let first = shown_by g.R.Rails.board g.R.Rails.rails g.R.Rails.bits g.R.Rails.states c.args.rails.now in
    let told = shown_by g.R.Rails.board g.R.Rails.rails g.R.Rails.bits g.R.Rails.states c.tell_abort.new.rails in
    let down = shown_by g.R.Rails.board g.R.Rails.rails g.R.Rails.bits g.R.Rails.states c.lower.new.rails in
    let again = shown_by g.R.Rails.board g.R.Rails.rails g.R.Rails.bits g.R.Rails.states c.retell.new.rails in
    let last = shown_by g.R.Rails.board g.R.Rails.rails g.R.Rails.bits g.R.Rails.states c.unvote.new.rails in
    let valid = subst IsValid (sym c.requires.board) c.requires.valid in
    let at = ap (λ (b : Board). slice_get b.rails c.args.r.0) c.requires.board ∙ c.rail_at-rail.ensures in
    let told_so = told_last first told down valid c.args.r.0 c.rail_at-rail.result.now at c.in_ok-tell_abort.ensures.ok c.lower.ensures.bit in
    switched_off first told down valid c.args.r.0 c.rail_at-rail.result.now at c.in_ok-tell_abort.ensures.ok c.lower.ensures.bit again
    (c.retell.ensures.book ((first.books c.args.r.0).events ++ PreDisable ∷ []) AbortDisable told_so) last c.unvote.ensures.vote

pub returns-clause-board : goal.returns-clause-board
returns-clause-board g c = let off = returns-clause-made g c refl in off.board

pub returns-clause-rails : goal.returns-clause-rails
returns-clause-rails g c = let off = returns-clause-made g c refl in off.rails
