use Rattle.std.proofs.Common.{◌≡◌, ℕ, false, List, Some, refl, sym, ap, ◌∙◌, subst, slice_get, slice_index_or}
use Rattle.std.specs.Prelude.{IsSome, nat_lt, option_map, position}
use Rattle.std.proofs.lemmas.Bool.{le-ltb, lt-ltb}
use Rattle.std.proofs.lemmas.Option.{get_or_from_slice_get}
use Rattle.board.specs.declared.rail_id.RailId.{RailId}
use Rattle.board.specs.Valid.{IsValid}
use Rattle.rows.specs.declared.answer.Answer.TheVariants.{StillEnabled}
use Rattle.rows.specs.declared.call.Call.TheVariants.{Close}
use Rattle.use_counts.specs.Book.{Book}
use Rattle.use_counts.specs.declared.handle_row.HandleRow.{HandleRow}
use Rattle.use_counts.specs.Uses.{is_row_of, rail_named}
use Rattle.plain_board.specs.Untied.{CountsNoLoads, IsUntied}
use Rattle.rail_ops.specs.Inside.Opening.{IsAnswered}
use Rattle.rail_ops.specs.Sight.{placed, shown_by}
use Rattle.rail_ops.proofs.Closed.{enabled_close, it, left_all}
use Rattle.rail_ops.proofs.OneMore.{seen_place, seen_row}
use Rattle.rail_ops.proofs.Ready.{held_alone}
use Rattle.rail_ops.proofs.opening.close.Goals as goal

pub unwrap-at-requires : goal.unwrap-at-requires
unwrap-at-requires g c =
    let first = shown_by g.R.Rails.board g.R.Rails.rails g.R.Rails.bits g.R.Rails.states c.args.rails.now in
    let place = placed first c.args.mine.now c.args.worker in
    let handle = c.args.handle.now in
    let ready = c.requires.ready in
    let r = c.in-Some.r.0 in
    let named : rail_named c.args.mine.now handle.bytes ≡ Some r = sym c.rail_of.ensures ∙ ap (option_map (λ (id : RailId). id.0)) c.in-Some.is in
    let valid = subst IsValid (sym c.requires.board) c.requires.valid in
    let untied = subst IsUntied (sym c.requires.board) c.requires.untied in
    let no_loads = subst CountsNoLoads (sym c.requires.board) c.requires.no_loads in
    let has = held_alone place (Close handle) handle.bytes ready refl r named in
    let is = c.place_of.ensures.place ∙ ap (λ (b : Book). position (is_row_of c.args.worker handle.bytes) b.rows) c.state.ensures
    ∙ seen_place first c.args.mine.now c.args.worker handle valid untied no_loads ready.plain ready.may_be r named has in
    subst IsSome (sym is) refl

pub returns-then-enables-gt0-clause-answered : goal.returns-then-enables-gt0-clause-answered
returns-then-enables-gt0-clause-answered g c plain may_be =
    let first = shown_by g.R.Rails.board g.R.Rails.rails g.R.Rails.bits g.R.Rails.states c.args.rails.now in
    let place = placed first c.args.mine.now c.args.worker in
    let handle = c.args.handle.now in
    let ready = c.requires.ready in
    let r = c.in-Some.r.0 in
    let named : rail_named c.args.mine.now handle.bytes ≡ Some r = sym c.rail_of.ensures ∙ ap (option_map (λ (id : RailId). id.0)) c.in-Some.is in
    let valid = subst IsValid (sym c.requires.board) c.requires.valid in
    let untied = subst IsUntied (sym c.requires.board) c.requires.untied in
    let no_loads = subst CountsNoLoads (sym c.requires.board) c.requires.no_loads in
    let has = held_alone place (Close handle) handle.bytes ready refl r named in
    let place_is : position (is_row_of c.args.worker handle.bytes) (first.books r).rows ≡ Some c.unwrap-at.result =
    sym (ap (λ (b : Book). position (is_row_of c.args.worker handle.bytes) b.rows) c.state.ensures) ∙ sym c.place_of.ensures.place ∙ c.unwrap-at.ensures in
    let row = seen_row first c.args.mine.now c.args.worker handle valid untied no_loads plain may_be r named has c.unwrap-at.result place_is in
    let entry = it first c.args.mine.now c.args.worker handle valid untied no_loads plain may_be r named in
    let seen = c.rows.ensures.rows ∙ ap (λ (b : Book). b.rows) c.state-2.ensures in
    let is : slice_index_or c.rows.result.now c.unwrap-at.result c.index-rows-at.result ≡ entry.entry.1 =
    get_or_from_slice_get c.rows.result.now c.unwrap-at.result entry.entry.1 c.index-rows-at.result (ap (λ (rs : List HandleRow). slice_get rs c.unwrap-at.result) seen ∙ row) in
    let same = ap (λ (w : HandleRow). w.enables) is in
    subst (λ (n : ℕ). IsAnswered (Close handle) place place (StillEnabled n) plain) (sym same)
    (enabled_close first c.args.mine.now c.args.worker handle valid untied no_loads plain may_be r named (sym (ap (nat_lt 0) same) ∙ lt-ltb 0 _ c.if-enables-gt0.true))

pub returns-clause-answered : goal.returns-clause-answered
returns-clause-answered g c plain may_be =
    let first = shown_by g.R.Rails.board g.R.Rails.rails g.R.Rails.bits g.R.Rails.states c.args.rails.now in
    let after = shown_by g.R.Rails.board g.R.Rails.rails g.R.Rails.bits g.R.Rails.states c.take_out.new.rails in
    let place = placed first c.args.mine.now c.args.worker in
    let handle = c.args.handle.now in
    let ready = c.requires.ready in
    let r = c.in-Some.r.0 in
    let named : rail_named c.args.mine.now handle.bytes ≡ Some r = sym c.rail_of.ensures ∙ ap (option_map (λ (id : RailId). id.0)) c.in-Some.is in
    let valid = subst IsValid (sym c.requires.board) c.requires.valid in
    let untied = subst IsUntied (sym c.requires.board) c.requires.untied in
    let no_loads = subst CountsNoLoads (sym c.requires.board) c.requires.no_loads in
    let has = held_alone place (Close handle) handle.bytes ready refl r named in
    let place_is : position (is_row_of c.args.worker handle.bytes) (first.books r).rows ≡ Some c.unwrap-at.result =
    sym (ap (λ (b : Book). position (is_row_of c.args.worker handle.bytes) b.rows) c.state.ensures) ∙ sym c.place_of.ensures.place ∙ c.unwrap-at.ensures in
    let row = seen_row first c.args.mine.now c.args.worker handle valid untied no_loads plain may_be r named has c.unwrap-at.result place_is in
    let entry = it first c.args.mine.now c.args.worker handle valid untied no_loads plain may_be r named in
    let seen = c.rows.ensures.rows ∙ ap (λ (b : Book). b.rows) c.state-2.ensures in
    let is : slice_index_or c.rows.result.now c.unwrap-at.result c.index-rows-at.result ≡ entry.entry.1 =
    get_or_from_slice_get c.rows.result.now c.unwrap-at.result entry.entry.1 c.index-rows-at.result (ap (λ (rs : List HandleRow). slice_get rs c.unwrap-at.result) seen ∙ row) in
    let none : nat_lt 0 entry.entry.1.enables ≡ false = ap (λ (w : HandleRow). nat_lt 0 w.enables) (sym is) ∙ le-ltb 0 _ c.if-enables-gt0.false in
    left_all first c.args.mine.now c.args.worker handle valid untied no_loads plain may_be r named none has c.unwrap-at.result place_is after c.remove.new.self
    c.take_out.ensures.book c.remove.ensures.named c.remove.ensures.fewer
