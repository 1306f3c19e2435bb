use Rattle.std.proofs.Common.{◌≡◌, ◌<◌, ℕ, false, List, [], Some, refl, sym, ap, ◌∙◌, subst, arith, length, slice_get, take, All}
use Rattle.std.specs.Prelude.{Contains, IfSome, IsSome, if◌then◌else◌, option_map, position}
use Rattle.std.proofs.lemmas.Result.{err_from_is_err_and}
use Rattle.std.proofs.lemmas.Option.{same_Some, slice_get_within}
use Rattle.reg_outside.specs.Bus.{told_by}
use Rattle.board_graph.specs.Sets.{closure}
use Rattle.board.specs.declared.board.Board.{Board}
use Rattle.board.specs.declared.rail_id.RailId.{RailId}
use Rattle.board.specs.Valid.{IsValid}
use Rattle.rail_law.specs.Moves.{writes_of}
use Rattle.rail_state.specs.Sight.{IsOwned}
use Rattle.rows.specs.declared.call.Call.TheVariants.{Enable}
use Rattle.use_counts.specs.Book.{Book}
use Rattle.use_counts.specs.declared.handle_row.HandleRow.{HandleRow}
use Rattle.use_counts.specs.Uses.{is_row_of, rail_named}
use Rattle.plain_board.specs.Plan.{chain, upward}
use Rattle.plain_board.specs.Untied.{CountsNoLoads, IsUntied}
use Rattle.rail_ops.specs.declared.outcome.Outcome.{Outcome}
use Rattle.rail_ops.specs.Exact.{IsExact}
use Rattle.rail_ops.specs.Sight.{placed, shown_by}
use Rattle.rail_ops.specs.Inside.Enabling.{enable_refusal}
use Rattle.rail_ops.specs.Inside.Rising.{CameUp, WentUp, LeadsUp, rises}
use Rattle.rail_ops.proofs.Chains.{chain_held, chain_owned, leads_up, rail_held}
use Rattle.rail_ops.proofs.Exactly.{exact_refused}
use Rattle.rail_ops.proofs.OneMore.{came_from, it, left, refusal_calm, row_enables, rows_same, seen_from, seen_place, seen_refusal, seen_row, settled_exact, went_from, went_none, writes_taken}
use Rattle.rail_ops.proofs.Ready.{named_inside, needs_are}
use Rattle.rail_ops.proofs.enabling.enable.Goals as goal

pub state-requires-clause-held : goal.state-requires-clause-held
state-requires-clause-held g c =
    let first = shown_by g.R.Rails.board g.R.Rails.rails g.R.Rails.bits g.R.Rails.states c.args.rails.now in
    let place = placed first c.args.mine.now c.args.worker in
    let handle = c.args.handle.now in
    let ready = c.requires.ready in
    let r = c.in-Some.r.0 in
    let named : rail_named c.args.mine.now handle.bytes ≡ Some r = sym c.rail_of.ensures ∙ ap (option_map (λ (id : RailId). id.0)) c.in-Some.is in
    let valid = subst IsValid (sym c.requires.board) c.requires.valid in
    let untied = subst IsUntied (sym c.requires.board) c.requires.untied in
    let no_loads = subst CountsNoLoads (sym c.requires.board) c.requires.no_loads in
    let inside = named_inside place ready.plain ready.may_be first.board refl handle.bytes r named in
    let holds : (i : ℕ) → Contains (closure first.board.graph r) i → Contains first.rails i =
    λ i within. ready.held i (subst (λ (rs : List ℕ). Contains rs i) (sym (needs_are place ready.plain ready.may_be first.board refl handle.bytes r named (closure first.board.graph))) within) in
    let has = rail_held first.board valid r inside first.rails holds in
    has

pub unwrap-at-requires : goal.unwrap-at-requires
unwrap-at-requires g c =
    let first = shown_by g.R.Rails.board g.R.Rails.rails g.R.Rails.bits g.R.Rails.states c.args.rails.now in
    let place = placed first c.args.mine.now c.args.worker in
    let handle = c.args.handle.now in
    let ready = c.requires.ready in
    let r = c.in-Some.r.0 in
    let named : rail_named c.args.mine.now handle.bytes ≡ Some r = sym c.rail_of.ensures ∙ ap (option_map (λ (id : RailId). id.0)) c.in-Some.is in
    let valid = subst IsValid (sym c.requires.board) c.requires.valid in
    let untied = subst IsUntied (sym c.requires.board) c.requires.untied in
    let no_loads = subst CountsNoLoads (sym c.requires.board) c.requires.no_loads in
    let inside = named_inside place ready.plain ready.may_be first.board refl handle.bytes r named in
    let holds : (i : ℕ) → Contains (closure first.board.graph r) i → Contains first.rails i =
    λ i within. ready.held i (subst (λ (rs : List ℕ). Contains rs i) (sym (needs_are place ready.plain ready.may_be first.board refl handle.bytes r named (closure first.board.graph))) within) in
    let has = rail_held first.board valid r inside first.rails holds in
    let is = c.place_of.ensures.place ∙ ap (λ (b : Book). position (is_row_of c.args.worker handle.bytes) b.rows) c.state.ensures
    ∙ seen_place first c.args.mine.now c.args.worker handle valid untied no_loads ready.plain ready.may_be r named has in
    subst IsSome (sym is) refl

pub state-requires-2-clause-held : goal.state-requires-2-clause-held
state-requires-2-clause-held g c =
    let first = shown_by g.R.Rails.board g.R.Rails.rails g.R.Rails.bits g.R.Rails.states c.args.rails.now in
    let place = placed first c.args.mine.now c.args.worker in
    let handle = c.args.handle.now in
    let ready = c.requires.ready in
    let r = c.in-Some.r.0 in
    let named : rail_named c.args.mine.now handle.bytes ≡ Some r = sym c.rail_of.ensures ∙ ap (option_map (λ (id : RailId). id.0)) c.in-Some.is in
    let valid = subst IsValid (sym c.requires.board) c.requires.valid in
    let untied = subst IsUntied (sym c.requires.board) c.requires.untied in
    let no_loads = subst CountsNoLoads (sym c.requires.board) c.requires.no_loads in
    let inside = named_inside place ready.plain ready.may_be first.board refl handle.bytes r named in
    let holds : (i : ℕ) → Contains (closure first.board.graph r) i → Contains first.rails i =
    λ i within. ready.held i (subst (λ (rs : List ℕ). Contains rs i) (sym (needs_are place ready.plain ready.may_be first.board refl handle.bytes r named (closure first.board.graph))) within) in
    let has = rail_held first.board valid r inside first.rails holds in
    has

pub returns-in-Some-refusal-clause-exact : goal.returns-in-Some-refusal-clause-exact
returns-in-Some-refusal-clause-exact g c plain may_be =
    let first = shown_by g.R.Rails.board g.R.Rails.rails g.R.Rails.bits g.R.Rails.states c.args.rails.now in
    let place = placed first c.args.mine.now c.args.worker in
    let handle = c.args.handle.now in
    let ready = c.requires.ready in
    let r = c.in-Some.r.0 in
    let named : rail_named c.args.mine.now handle.bytes ≡ Some r = sym c.rail_of.ensures ∙ ap (option_map (λ (id : RailId). id.0)) c.in-Some.is in
    let valid = subst IsValid (sym c.requires.board) c.requires.valid in
    let untied = subst IsUntied (sym c.requires.board) c.requires.untied in
    let no_loads = subst CountsNoLoads (sym c.requires.board) c.requires.no_loads in
    let inside = named_inside place ready.plain ready.may_be first.board refl handle.bytes r named in
    let holds : (i : ℕ) → Contains (closure first.board.graph r) i → Contains first.rails i =
    λ i within. ready.held i (subst (λ (rs : List ℕ). Contains rs i) (sym (needs_are place ready.plain ready.may_be first.board refl handle.bytes r named (closure first.board.graph))) within) in
    let has = rail_held first.board valid r inside first.rails holds in
    let place_is : position (is_row_of c.args.worker handle.bytes) (first.books r).rows ≡ Some c.unwrap-at.result =
    sym (ap (λ (b : Book). position (is_row_of c.args.worker handle.bytes) b.rows) c.state.ensures) ∙ sym c.place_of.ensures.place ∙ c.unwrap-at.ensures in
    let row = seen_row first c.args.mine.now c.args.worker handle valid untied no_loads plain may_be r named has c.unwrap-at.result place_is in
    let entry = it first c.args.mine.now c.args.worker handle valid untied no_loads plain may_be r named in
    let judged : c.refusal.result ≡ enable_refusal (first.books r).suspended entry.entry.1.enables =
    c.refusal.ensures entry.entry.1 (ap (λ (b : Book). slice_get b.rows c.unwrap-at.result) c.state-2.ensures ∙ row) ∙ ap (λ (b : Book). enable_refusal b.suspended entry.entry.1.enables) c.state-2.ensures in
    let decided = seen_refusal first c.args.mine.now c.args.worker handle valid untied no_loads plain may_be r named has c.unwrap-at.result place_is in
    let bus = told_by g.W.Wire.accepted g.W.Wire.plan g.W.Wire.faults c.args.wire.now in
    let said = sym judged ∙ c.in-Some-refusal.is in
    subst (λ (outcome : Outcome). IsExact (Enable handle) place place bus bus c.args.keep outcome.answer outcome.writes plain) (sym c.without_writes-in-Some-refusal.ensures)
    (exact_refused place (Enable handle) bus c.args.keep c.in-Some-refusal.said (refusal_calm (first.books r).suspended entry.entry.1.enables c.in-Some-refusal.said said) plain may_be (decided ∙ said) place may_be)

pub kept_writes-requires-clause-there : goal.kept_writes-requires-clause-there
kept_writes-requires-clause-there g c =
    let first = shown_by g.R.Rails.board g.R.Rails.rails g.R.Rails.bits g.R.Rails.states c.args.rails.now in
    let place = placed first c.args.mine.now c.args.worker in
    let handle = c.args.handle.now in
    let ready = c.requires.ready in
    let r = c.in-Some.r.0 in
    let named : rail_named c.args.mine.now handle.bytes ≡ Some r = sym c.rail_of.ensures ∙ ap (option_map (λ (id : RailId). id.0)) c.in-Some.is in
    let valid = subst IsValid (sym c.requires.board) c.requires.valid in
    let untied = subst IsUntied (sym c.requires.board) c.requires.untied in
    let no_loads = subst CountsNoLoads (sym c.requires.board) c.requires.no_loads in
    let inside = named_inside place ready.plain ready.may_be first.board refl handle.bytes r named in
    let holds : (i : ℕ) → Contains (closure first.board.graph r) i → Contains first.rails i =
    λ i within. ready.held i (subst (λ (rs : List ℕ). Contains rs i) (sym (needs_are place ready.plain ready.may_be first.board refl handle.bytes r named (closure first.board.graph))) within) in
    let has = rail_held first.board valid r inside first.rails holds in
    subst (λ (b : Board). r < length b.rails) c.requires.board inside

pub kept_writes-requires-clause-held : goal.kept_writes-requires-clause-held
kept_writes-requires-clause-held g c =
    let first = shown_by g.R.Rails.board g.R.Rails.rails g.R.Rails.bits g.R.Rails.states c.args.rails.now in
    let place = placed first c.args.mine.now c.args.worker in
    let handle = c.args.handle.now in
    let ready = c.requires.ready in
    let r = c.in-Some.r.0 in
    let named : rail_named c.args.mine.now handle.bytes ≡ Some r = sym c.rail_of.ensures ∙ ap (option_map (λ (id : RailId). id.0)) c.in-Some.is in
    let valid = subst IsValid (sym c.requires.board) c.requires.valid in
    let untied = subst IsUntied (sym c.requires.board) c.requires.untied in
    let no_loads = subst CountsNoLoads (sym c.requires.board) c.requires.no_loads in
    let inside = named_inside place ready.plain ready.may_be first.board refl handle.bytes r named in
    let holds : (i : ℕ) → Contains (closure first.board.graph r) i → Contains first.rails i =
    λ i within. ready.held i (subst (λ (rs : List ℕ). Contains rs i) (sym (needs_are place ready.plain ready.may_be first.board refl handle.bytes r named (closure first.board.graph))) within) in
    let has = rail_held first.board valid r inside first.rails holds in
    subst (λ (b : Board). All (λ k. Contains first.rails k) (chain b r)) c.requires.board (chain_held first.board valid r inside first.rails holds)

pub returns-in_err-writes-clause-err : goal.returns-in_err-writes-clause-err
returns-in_err-writes-clause-err g c =
    let first = shown_by g.R.Rails.board g.R.Rails.rails g.R.Rails.bits g.R.Rails.states c.args.rails.now in
    let place = placed first c.args.mine.now c.args.worker in
    let handle = c.args.handle.now in
    let ready = c.requires.ready in
    let r = c.in-Some.r.0 in
    let named : rail_named c.args.mine.now handle.bytes ≡ Some r = sym c.rail_of.ensures ∙ ap (option_map (λ (id : RailId). id.0)) c.in-Some.is in
    let valid = subst IsValid (sym c.requires.board) c.requires.valid in
    let untied = subst IsUntied (sym c.requires.board) c.requires.untied in
    let no_loads = subst CountsNoLoads (sym c.requires.board) c.requires.no_loads in
    let inside = named_inside place ready.plain ready.may_be first.board refl handle.bytes r named in
    let holds : (i : ℕ) → Contains (closure first.board.graph r) i → Contains first.rails i =
    λ i within. ready.held i (subst (λ (rs : List ℕ). Contains rs i) (sym (needs_are place ready.plain ready.may_be first.board refl handle.bytes r named (closure first.board.graph))) within) in
    let has = rail_held first.board valid r inside first.rails holds in
    let place_is : position (is_row_of c.args.worker handle.bytes) (first.books r).rows ≡ Some c.unwrap-at.result =
    sym (ap (λ (b : Book). position (is_row_of c.args.worker handle.bytes) b.rows) c.state.ensures) ∙ sym c.place_of.ensures.place ∙ c.unwrap-at.ensures in
    let mid = shown_by g.R.Rails.board g.R.Rails.rails g.R.Rails.bits g.R.Rails.states c.kept_writes.new.rails in
    let bus = told_by g.W.Wire.accepted g.W.Wire.plan g.W.Wire.faults c.args.wire.now in
    let exit = err_from_is_err_and c.from_residual.result c.from_residual.ensures.1 in
    rw exit.1 (λ plain may_be.
    let row = seen_row first c.args.mine.now c.args.worker handle valid untied no_loads plain may_be r named has c.unwrap-at.result place_is in
    let entry = it first c.args.mine.now c.args.worker handle valid untied no_loads plain may_be r named in
    let judged : c.refusal.result ≡ enable_refusal (first.books r).suspended entry.entry.1.enables =
    c.refusal.ensures entry.entry.1 (ap (λ (b : Book). slice_get b.rows c.unwrap-at.result) c.state-2.ensures ∙ row) ∙ ap (λ (b : Book). enable_refusal b.suspended entry.entry.1.enables) c.state-2.ensures in
    let decided = seen_refusal first c.args.mine.now c.args.worker handle valid untied no_loads plain may_be r named has c.unwrap-at.result place_is in
    let free = decided ∙ sym judged ∙ c.in_default-refusal.is in
    left first c.args.mine.now c.args.worker handle valid untied no_loads plain may_be r named free mid bus bus 0
    (went_none first mid bus plain (rises first.board plain.regs (chain first.board r)) c.in_err-writes.ensures.same may_be.shows))

pub come_up-requires-clause-there : goal.come_up-requires-clause-there
come_up-requires-clause-there g c =
    let first = shown_by g.R.Rails.board g.R.Rails.rails g.R.Rails.bits g.R.Rails.states c.args.rails.now in
    let place = placed first c.args.mine.now c.args.worker in
    let handle = c.args.handle.now in
    let ready = c.requires.ready in
    let r = c.in-Some.r.0 in
    let named : rail_named c.args.mine.now handle.bytes ≡ Some r = sym c.rail_of.ensures ∙ ap (option_map (λ (id : RailId). id.0)) c.in-Some.is in
    let valid = subst IsValid (sym c.requires.board) c.requires.valid in
    let untied = subst IsUntied (sym c.requires.board) c.requires.untied in
    let no_loads = subst CountsNoLoads (sym c.requires.board) c.requires.no_loads in
    let inside = named_inside place ready.plain ready.may_be first.board refl handle.bytes r named in
    let holds : (i : ℕ) → Contains (closure first.board.graph r) i → Contains first.rails i =
    λ i within. ready.held i (subst (λ (rs : List ℕ). Contains rs i) (sym (needs_are place ready.plain ready.may_be first.board refl handle.bytes r named (closure first.board.graph))) within) in
    let has = rail_held first.board valid r inside first.rails holds in
    subst (λ (b : Board). r < length b.rails) c.requires.board inside

pub come_up-requires-clause-up : goal.come_up-requires-clause-up
come_up-requires-clause-up g c =
    let first = shown_by g.R.Rails.board g.R.Rails.rails g.R.Rails.bits g.R.Rails.states c.args.rails.now in
    let place = placed first c.args.mine.now c.args.worker in
    let handle = c.args.handle.now in
    let ready = c.requires.ready in
    let r = c.in-Some.r.0 in
    let named : rail_named c.args.mine.now handle.bytes ≡ Some r = sym c.rail_of.ensures ∙ ap (option_map (λ (id : RailId). id.0)) c.in-Some.is in
    let valid = subst IsValid (sym c.requires.board) c.requires.valid in
    let untied = subst IsUntied (sym c.requires.board) c.requires.untied in
    let no_loads = subst CountsNoLoads (sym c.requires.board) c.requires.no_loads in
    let inside = named_inside place ready.plain ready.may_be first.board refl handle.bytes r named in
    let holds : (i : ℕ) → Contains (closure first.board.graph r) i → Contains first.rails i =
    λ i within. ready.held i (subst (λ (rs : List ℕ). Contains rs i) (sym (needs_are place ready.plain ready.may_be first.board refl handle.bytes r named (closure first.board.graph))) within) in
    let has = rail_held first.board valid r inside first.rails holds in
    subst (λ (n : ℕ). LeadsUp c.args.board.now n (Some r)) (sym c.len.ensures) (subst (λ (b : Board). LeadsUp b (length b.rails) (Some r)) c.requires.board (leads_up first.board valid r inside))

pub come_up-requires-clause-held : goal.come_up-requires-clause-held
come_up-requires-clause-held g c =
    let first = shown_by g.R.Rails.board g.R.Rails.rails g.R.Rails.bits g.R.Rails.states c.args.rails.now in
    let place = placed first c.args.mine.now c.args.worker in
    let handle = c.args.handle.now in
    let ready = c.requires.ready in
    let r = c.in-Some.r.0 in
    let named : rail_named c.args.mine.now handle.bytes ≡ Some r = sym c.rail_of.ensures ∙ ap (option_map (λ (id : RailId). id.0)) c.in-Some.is in
    let valid = subst IsValid (sym c.requires.board) c.requires.valid in
    let untied = subst IsUntied (sym c.requires.board) c.requires.untied in
    let no_loads = subst CountsNoLoads (sym c.requires.board) c.requires.no_loads in
    let inside = named_inside place ready.plain ready.may_be first.board refl handle.bytes r named in
    let holds : (i : ℕ) → Contains (closure first.board.graph r) i → Contains first.rails i =
    λ i within. ready.held i (subst (λ (rs : List ℕ). Contains rs i) (sym (needs_are place ready.plain ready.may_be first.board refl handle.bytes r named (closure first.board.graph))) within) in
    let has = rail_held first.board valid r inside first.rails holds in
    let mid = shown_by g.R.Rails.board g.R.Rails.rails g.R.Rails.bits g.R.Rails.states c.kept_writes.new.rails in
    let bus = told_by g.W.Wire.accepted g.W.Wire.plan g.W.Wire.faults c.args.wire.now in
    subst (λ (n : ℕ). All (λ k. Contains mid.rails k) (upward c.args.board.now.graph n (Some r))) (sym c.len.ensures)
    (subst (λ (rs : List ℕ). All (λ k. Contains rs k) (chain c.args.board.now r)) (sym c.in_ok-writes.ensures.same.rails)
    (subst (λ (b : Board). All (λ k. Contains first.rails k) (chain b r)) c.requires.board (chain_held first.board valid r inside first.rails holds)))

pub come_up-requires-clause-owned : goal.come_up-requires-clause-owned
come_up-requires-clause-owned g c =
    let first = shown_by g.R.Rails.board g.R.Rails.rails g.R.Rails.bits g.R.Rails.states c.args.rails.now in
    let place = placed first c.args.mine.now c.args.worker in
    let handle = c.args.handle.now in
    let ready = c.requires.ready in
    let r = c.in-Some.r.0 in
    let named : rail_named c.args.mine.now handle.bytes ≡ Some r = sym c.rail_of.ensures ∙ ap (option_map (λ (id : RailId). id.0)) c.in-Some.is in
    let valid = subst IsValid (sym c.requires.board) c.requires.valid in
    let untied = subst IsUntied (sym c.requires.board) c.requires.untied in
    let no_loads = subst CountsNoLoads (sym c.requires.board) c.requires.no_loads in
    let inside = named_inside place ready.plain ready.may_be first.board refl handle.bytes r named in
    let holds : (i : ℕ) → Contains (closure first.board.graph r) i → Contains first.rails i =
    λ i within. ready.held i (subst (λ (rs : List ℕ). Contains rs i) (sym (needs_are place ready.plain ready.may_be first.board refl handle.bytes r named (closure first.board.graph))) within) in
    let has = rail_held first.board valid r inside first.rails holds in
    let mid = shown_by g.R.Rails.board g.R.Rails.rails g.R.Rails.bits g.R.Rails.states c.kept_writes.new.rails in
    let bus = told_by g.W.Wire.accepted g.W.Wire.plan g.W.Wire.faults c.args.wire.now in
    subst (λ (n : ℕ). All (IsOwned c.args.board.now mid.rails) (upward c.args.board.now.graph n (Some r))) (sym c.len.ensures)
    (subst (λ (rs : List ℕ). All (IsOwned c.args.board.now rs) (chain c.args.board.now r)) (sym c.in_ok-writes.ensures.same.rails)
    (subst (λ (b : Board). All (IsOwned b first.rails) (chain b r)) c.requires.board (chain_owned first.board valid r inside first.rails holds)))

pub come_up-requires-clause-seen : goal.come_up-requires-clause-seen
come_up-requires-clause-seen g c =
    let first = shown_by g.R.Rails.board g.R.Rails.rails g.R.Rails.bits g.R.Rails.states c.args.rails.now in
    let place = placed first c.args.mine.now c.args.worker in
    let handle = c.args.handle.now in
    let ready = c.requires.ready in
    let r = c.in-Some.r.0 in
    let named : rail_named c.args.mine.now handle.bytes ≡ Some r = sym c.rail_of.ensures ∙ ap (option_map (λ (id : RailId). id.0)) c.in-Some.is in
    let valid = subst IsValid (sym c.requires.board) c.requires.valid in
    let untied = subst IsUntied (sym c.requires.board) c.requires.untied in
    let no_loads = subst CountsNoLoads (sym c.requires.board) c.requires.no_loads in
    let inside = named_inside place ready.plain ready.may_be first.board refl handle.bytes r named in
    let holds : (i : ℕ) → Contains (closure first.board.graph r) i → Contains first.rails i =
    λ i within. ready.held i (subst (λ (rs : List ℕ). Contains rs i) (sym (needs_are place ready.plain ready.may_be first.board refl handle.bytes r named (closure first.board.graph))) within) in
    let has = rail_held first.board valid r inside first.rails holds in
    let mid = shown_by g.R.Rails.board g.R.Rails.rails g.R.Rails.bits g.R.Rails.states c.kept_writes.new.rails in
    let bus = told_by g.W.Wire.accepted g.W.Wire.plan g.W.Wire.faults c.args.wire.now in
    (ready.plain, seen_from first mid c.args.mine.now c.args.worker ready.plain c.in_ok-writes.ensures.same ready.may_be)

pub returns-in_err-rise-clause-err : goal.returns-in_err-rise-clause-err
returns-in_err-rise-clause-err g c =
    let first = shown_by g.R.Rails.board g.R.Rails.rails g.R.Rails.bits g.R.Rails.states c.args.rails.now in
    let place = placed first c.args.mine.now c.args.worker in
    let handle = c.args.handle.now in
    let ready = c.requires.ready in
    let r = c.in-Some.r.0 in
    let named : rail_named c.args.mine.now handle.bytes ≡ Some r = sym c.rail_of.ensures ∙ ap (option_map (λ (id : RailId). id.0)) c.in-Some.is in
    let valid = subst IsValid (sym c.requires.board) c.requires.valid in
    let untied = subst IsUntied (sym c.requires.board) c.requires.untied in
    let no_loads = subst CountsNoLoads (sym c.requires.board) c.requires.no_loads in
    let inside = named_inside place ready.plain ready.may_be first.board refl handle.bytes r named in
    let holds : (i : ℕ) → Contains (closure first.board.graph r) i → Contains first.rails i =
    λ i within. ready.held i (subst (λ (rs : List ℕ). Contains rs i) (sym (needs_are place ready.plain ready.may_be first.board refl handle.bytes r named (closure first.board.graph))) within) in
    let has = rail_held first.board valid r inside first.rails holds in
    let place_is : position (is_row_of c.args.worker handle.bytes) (first.books r).rows ≡ Some c.unwrap-at.result =
    sym (ap (λ (b : Book). position (is_row_of c.args.worker handle.bytes) b.rows) c.state.ensures) ∙ sym c.place_of.ensures.place ∙ c.unwrap-at.ensures in
    let mid = shown_by g.R.Rails.board g.R.Rails.rails g.R.Rails.bits g.R.Rails.states c.kept_writes.new.rails in
    let bus = told_by g.W.Wire.accepted g.W.Wire.plan g.W.Wire.faults c.args.wire.now in
    let way : upward c.args.board.now.graph c.len.result (Some r) ≡ chain first.board r =
    ap (λ (n : ℕ). upward c.args.board.now.graph n (Some r)) c.len.ensures ∙ ap (λ (b : Board). chain b r) (sym c.requires.board) in
    let after = shown_by g.R.Rails.board g.R.Rails.rails g.R.Rails.bits g.R.Rails.states c.come_up.new.rails in
    let bus' = told_by g.W.Wire.accepted g.W.Wire.plan g.W.Wire.faults c.come_up.new.wire in
    let exit = err_from_is_err_and c.from_residual-in_err-rise.result c.from_residual-in_err-rise.ensures.1 in
    let went = c.in_err-rise.ensures.err in
    rw exit.1 (λ plain may_be.
    let row = seen_row first c.args.mine.now c.args.worker handle valid untied no_loads plain may_be r named has c.unwrap-at.result place_is in
    let entry = it first c.args.mine.now c.args.worker handle valid untied no_loads plain may_be r named in
    let judged : c.refusal.result ≡ enable_refusal (first.books r).suspended entry.entry.1.enables =
    c.refusal.ensures entry.entry.1 (ap (λ (b : Book). slice_get b.rows c.unwrap-at.result) c.state-2.ensures ∙ row) ∙ ap (λ (b : Book). enable_refusal b.suspended entry.entry.1.enables) c.state-2.ensures in
    let decided = seen_refusal first c.args.mine.now c.args.worker handle valid untied no_loads plain may_be r named has c.unwrap-at.result place_is in
    let free = decided ∙ sym judged ∙ c.in_default-refusal.is in
    left first c.args.mine.now c.args.worker handle valid untied no_loads plain may_be r named free after bus bus' went.0
    (went_from first mid after c.in_ok-writes.ensures.same.board bus bus' went.0 plain (chain first.board r) false
    (subst (λ (rails : List ℕ). WentUp mid after bus bus' went.0 false plain (rises mid.board plain.regs rails)) way
    (went.1 plain (seen_from first mid c.args.mine.now c.args.worker plain c.in_ok-writes.ensures.same may_be)))))

pub settle-requires-clause-held : goal.settle-requires-clause-held
settle-requires-clause-held g c =
    let first = shown_by g.R.Rails.board g.R.Rails.rails g.R.Rails.bits g.R.Rails.states c.args.rails.now in
    let place = placed first c.args.mine.now c.args.worker in
    let handle = c.args.handle.now in
    let ready = c.requires.ready in
    let r = c.in-Some.r.0 in
    let named : rail_named c.args.mine.now handle.bytes ≡ Some r = sym c.rail_of.ensures ∙ ap (option_map (λ (id : RailId). id.0)) c.in-Some.is in
    let valid = subst IsValid (sym c.requires.board) c.requires.valid in
    let untied = subst IsUntied (sym c.requires.board) c.requires.untied in
    let no_loads = subst CountsNoLoads (sym c.requires.board) c.requires.no_loads in
    let inside = named_inside place ready.plain ready.may_be first.board refl handle.bytes r named in
    let holds : (i : ℕ) → Contains (closure first.board.graph r) i → Contains first.rails i =
    λ i within. ready.held i (subst (λ (rs : List ℕ). Contains rs i) (sym (needs_are place ready.plain ready.may_be first.board refl handle.bytes r named (closure first.board.graph))) within) in
    let has = rail_held first.board valid r inside first.rails holds in
    let rails_same = c.in_ok-rise.ensures.rails ∙ c.in_ok-writes.ensures.same.rails in
    let board_same = c.in_ok-rise.ensures.board ∙ c.in_ok-writes.ensures.same.board in
    let still = subst (λ (rs : List ℕ). Contains rs r) (sym rails_same) has in
    still

pub settle-requires-clause-place : goal.settle-requires-clause-place
settle-requires-clause-place g c =
    let first = shown_by g.R.Rails.board g.R.Rails.rails g.R.Rails.bits g.R.Rails.states c.args.rails.now in
    let place = placed first c.args.mine.now c.args.worker in
    let handle = c.args.handle.now in
    let ready = c.requires.ready in
    let r = c.in-Some.r.0 in
    let named : rail_named c.args.mine.now handle.bytes ≡ Some r = sym c.rail_of.ensures ∙ ap (option_map (λ (id : RailId). id.0)) c.in-Some.is in
    let valid = subst IsValid (sym c.requires.board) c.requires.valid in
    let untied = subst IsUntied (sym c.requires.board) c.requires.untied in
    let no_loads = subst CountsNoLoads (sym c.requires.board) c.requires.no_loads in
    let inside = named_inside place ready.plain ready.may_be first.board refl handle.bytes r named in
    let holds : (i : ℕ) → Contains (closure first.board.graph r) i → Contains first.rails i =
    λ i within. ready.held i (subst (λ (rs : List ℕ). Contains rs i) (sym (needs_are place ready.plain ready.may_be first.board refl handle.bytes r named (closure first.board.graph))) within) in
    let has = rail_held first.board valid r inside first.rails holds in
    let place_is : position (is_row_of c.args.worker handle.bytes) (first.books r).rows ≡ Some c.unwrap-at.result =
    sym (ap (λ (b : Book). position (is_row_of c.args.worker handle.bytes) b.rows) c.state.ensures) ∙ sym c.place_of.ensures.place ∙ c.unwrap-at.ensures in
    let mid = shown_by g.R.Rails.board g.R.Rails.rails g.R.Rails.bits g.R.Rails.states c.kept_writes.new.rails in
    let bus = told_by g.W.Wire.accepted g.W.Wire.plan g.W.Wire.faults c.args.wire.now in
    let way : upward c.args.board.now.graph c.len.result (Some r) ≡ chain first.board r =
    ap (λ (n : ℕ). upward c.args.board.now.graph n (Some r)) c.len.ensures ∙ ap (λ (b : Board). chain b r) (sym c.requires.board) in
    let after = shown_by g.R.Rails.board g.R.Rails.rails g.R.Rails.bits g.R.Rails.states c.come_up.new.rails in
    let bus' = told_by g.W.Wire.accepted g.W.Wire.plan g.W.Wire.faults c.come_up.new.wire in
    let rails_same = c.in_ok-rise.ensures.rails ∙ c.in_ok-writes.ensures.same.rails in
    let board_same = c.in_ok-rise.ensures.board ∙ c.in_ok-writes.ensures.same.board in
    let still = subst (λ (rs : List ℕ). Contains rs r) (sym rails_same) has in
    let came = came_from first mid after c.in_ok-writes.ensures.same.board bus bus' c.in_ok-rise.rise.made ready.plain (chain first.board r) c.in_ok-rise.rise.delay (option_map (λ (id : RailId). id.0) c.in_ok-rise.rise.refused)
    (subst (λ (rails : List ℕ). CameUp mid after bus bus' c.in_ok-rise.rise.made c.in_ok-rise.rise.delay (option_map (λ (id : RailId). id.0) c.in_ok-rise.rise.refused) ready.plain (rises mid.board ready.plain.regs rails)) way
    (c.in_ok-rise.ensures.rises ready.plain (seen_from first mid c.args.mine.now c.args.worker ready.plain c.in_ok-writes.ensures.same ready.may_be))) in
    let rows = rows_same first after ready.plain _ r ready.may_be.shows came.went.shows has still in
    let row = seen_row first c.args.mine.now c.args.worker handle valid untied no_loads ready.plain ready.may_be r named has c.unwrap-at.result place_is in
    subst (λ (rs : List HandleRow). c.unwrap-at.result < length rs) (sym rows) (slice_get_within (first.books r).rows c.unwrap-at.result _ row)

pub settle-requires-clause-room : goal.settle-requires-clause-room
settle-requires-clause-room g c row is =
    let first = shown_by g.R.Rails.board g.R.Rails.rails g.R.Rails.bits g.R.Rails.states c.args.rails.now in
    let place = placed first c.args.mine.now c.args.worker in
    let handle = c.args.handle.now in
    let ready = c.requires.ready in
    let r = c.in-Some.r.0 in
    let named : rail_named c.args.mine.now handle.bytes ≡ Some r = sym c.rail_of.ensures ∙ ap (option_map (λ (id : RailId). id.0)) c.in-Some.is in
    let valid = subst IsValid (sym c.requires.board) c.requires.valid in
    let untied = subst IsUntied (sym c.requires.board) c.requires.untied in
    let no_loads = subst CountsNoLoads (sym c.requires.board) c.requires.no_loads in
    let inside = named_inside place ready.plain ready.may_be first.board refl handle.bytes r named in
    let holds : (i : ℕ) → Contains (closure first.board.graph r) i → Contains first.rails i =
    λ i within. ready.held i (subst (λ (rs : List ℕ). Contains rs i) (sym (needs_are place ready.plain ready.may_be first.board refl handle.bytes r named (closure first.board.graph))) within) in
    let has = rail_held first.board valid r inside first.rails holds in
    let place_is : position (is_row_of c.args.worker handle.bytes) (first.books r).rows ≡ Some c.unwrap-at.result =
    sym (ap (λ (b : Book). position (is_row_of c.args.worker handle.bytes) b.rows) c.state.ensures) ∙ sym c.place_of.ensures.place ∙ c.unwrap-at.ensures in
    let mid = shown_by g.R.Rails.board g.R.Rails.rails g.R.Rails.bits g.R.Rails.states c.kept_writes.new.rails in
    let bus = told_by g.W.Wire.accepted g.W.Wire.plan g.W.Wire.faults c.args.wire.now in
    let way : upward c.args.board.now.graph c.len.result (Some r) ≡ chain first.board r =
    ap (λ (n : ℕ). upward c.args.board.now.graph n (Some r)) c.len.ensures ∙ ap (λ (b : Board). chain b r) (sym c.requires.board) in
    let after = shown_by g.R.Rails.board g.R.Rails.rails g.R.Rails.bits g.R.Rails.states c.come_up.new.rails in
    let bus' = told_by g.W.Wire.accepted g.W.Wire.plan g.W.Wire.faults c.come_up.new.wire in
    let rails_same = c.in_ok-rise.ensures.rails ∙ c.in_ok-writes.ensures.same.rails in
    let board_same = c.in_ok-rise.ensures.board ∙ c.in_ok-writes.ensures.same.board in
    let still = subst (λ (rs : List ℕ). Contains rs r) (sym rails_same) has in
    let came = came_from first mid after c.in_ok-writes.ensures.same.board bus bus' c.in_ok-rise.rise.made ready.plain (chain first.board r) c.in_ok-rise.rise.delay (option_map (λ (id : RailId). id.0) c.in_ok-rise.rise.refused)
    (subst (λ (rails : List ℕ). CameUp mid after bus bus' c.in_ok-rise.rise.made c.in_ok-rise.rise.delay (option_map (λ (id : RailId). id.0) c.in_ok-rise.rise.refused) ready.plain (rises mid.board ready.plain.regs rails)) way
    (c.in_ok-rise.ensures.rises ready.plain (seen_from first mid c.args.mine.now c.args.worker ready.plain c.in_ok-writes.ensures.same ready.may_be))) in
    let rows = rows_same first after ready.plain _ r ready.may_be.shows came.went.shows has still in
    let own = seen_row first c.args.mine.now c.args.worker handle valid untied no_loads ready.plain ready.may_be r named has c.unwrap-at.result place_is in
    let same : row ≡ (it first c.args.mine.now c.args.worker handle valid untied no_loads ready.plain ready.may_be r named).entry.1 =
    same_Some _ _ (sym is ∙ ap (λ (rs : List HandleRow). slice_get rs c.unwrap-at.result) rows ∙ own) in
    let few = row_enables first c.args.mine.now c.args.worker handle valid untied no_loads ready.plain ready.may_be r named has c.unwrap-at.result place_is in
    omega (arith, few, ap (λ (w : HandleRow). w.enables) same)

pub returns-clause-exact : goal.returns-clause-exact
returns-clause-exact g c plain may_be =
    let first = shown_by g.R.Rails.board g.R.Rails.rails g.R.Rails.bits g.R.Rails.states c.args.rails.now in
    let place = placed first c.args.mine.now c.args.worker in
    let handle = c.args.handle.now in
    let ready = c.requires.ready in
    let r = c.in-Some.r.0 in
    let named : rail_named c.args.mine.now handle.bytes ≡ Some r = sym c.rail_of.ensures ∙ ap (option_map (λ (id : RailId). id.0)) c.in-Some.is in
    let valid = subst IsValid (sym c.requires.board) c.requires.valid in
    let untied = subst IsUntied (sym c.requires.board) c.requires.untied in
    let no_loads = subst CountsNoLoads (sym c.requires.board) c.requires.no_loads in
    let inside = named_inside place ready.plain ready.may_be first.board refl handle.bytes r named in
    let holds : (i : ℕ) → Contains (closure first.board.graph r) i → Contains first.rails i =
    λ i within. ready.held i (subst (λ (rs : List ℕ). Contains rs i) (sym (needs_are place ready.plain ready.may_be first.board refl handle.bytes r named (closure first.board.graph))) within) in
    let has = rail_held first.board valid r inside first.rails holds in
    let place_is : position (is_row_of c.args.worker handle.bytes) (first.books r).rows ≡ Some c.unwrap-at.result =
    sym (ap (λ (b : Book). position (is_row_of c.args.worker handle.bytes) b.rows) c.state.ensures) ∙ sym c.place_of.ensures.place ∙ c.unwrap-at.ensures in
    let row = seen_row first c.args.mine.now c.args.worker handle valid untied no_loads plain may_be r named has c.unwrap-at.result place_is in
    let entry = it first c.args.mine.now c.args.worker handle valid untied no_loads plain may_be r named in
    let judged : c.refusal.result ≡ enable_refusal (first.books r).suspended entry.entry.1.enables =
    c.refusal.ensures entry.entry.1 (ap (λ (b : Book). slice_get b.rows c.unwrap-at.result) c.state-2.ensures ∙ row) ∙ ap (λ (b : Book). enable_refusal b.suspended entry.entry.1.enables) c.state-2.ensures in
    let decided = seen_refusal first c.args.mine.now c.args.worker handle valid untied no_loads plain may_be r named has c.unwrap-at.result place_is in
    let free = decided ∙ sym judged ∙ c.in_default-refusal.is in
    let mid = shown_by g.R.Rails.board g.R.Rails.rails g.R.Rails.bits g.R.Rails.states c.kept_writes.new.rails in
    let bus = told_by g.W.Wire.accepted g.W.Wire.plan g.W.Wire.faults c.args.wire.now in
    let way : upward c.args.board.now.graph c.len.result (Some r) ≡ chain first.board r =
    ap (λ (n : ℕ). upward c.args.board.now.graph n (Some r)) c.len.ensures ∙ ap (λ (b : Board). chain b r) (sym c.requires.board) in
    let after = shown_by g.R.Rails.board g.R.Rails.rails g.R.Rails.bits g.R.Rails.states c.come_up.new.rails in
    let bus' = told_by g.W.Wire.accepted g.W.Wire.plan g.W.Wire.faults c.come_up.new.wire in
    let rails_same = c.in_ok-rise.ensures.rails ∙ c.in_ok-writes.ensures.same.rails in
    let board_same = c.in_ok-rise.ensures.board ∙ c.in_ok-writes.ensures.same.board in
    let still = subst (λ (rs : List ℕ). Contains rs r) (sym rails_same) has in
    let came = came_from first mid after c.in_ok-writes.ensures.same.board bus bus' c.in_ok-rise.rise.made plain (chain first.board r) c.in_ok-rise.rise.delay (option_map (λ (id : RailId). id.0) c.in_ok-rise.rise.refused)
    (subst (λ (rails : List ℕ). CameUp mid after bus bus' c.in_ok-rise.rise.made c.in_ok-rise.rise.delay (option_map (λ (id : RailId). id.0) c.in_ok-rise.rise.refused) plain (rises mid.board plain.regs rails)) way
    (c.in_ok-rise.ensures.rises plain (seen_from first mid c.args.mine.now c.args.worker plain c.in_ok-writes.ensures.same may_be))) in
    let last = shown_by g.R.Rails.board g.R.Rails.rails g.R.Rails.bits g.R.Rails.states c.settle.new.rails in
    let kept = c.from_vec.ensures ∙ c.truncate.ensures.items
    ∙ ap (take c.in_ok-rise.rise.made) (c.in_ok-writes.ensures.writes plain may_be.shows ∙ ap (λ (b : Board). if c.args.keep then writes_of first.board (rises first.board plain.regs (chain b r)) else []) (sym c.requires.board))
    ∙ writes_taken first.board c.args.keep (rises first.board plain.regs (chain first.board r)) c.in_ok-rise.rise.made in
    settled_exact first c.args.mine.now c.args.worker handle valid untied no_loads plain may_be r named free has c.unwrap-at.result place_is after last board_same rails_same bus bus' c.in_ok-rise.rise.made c.in_ok-rise.rise.delay
    c.settle.result c.args.keep c.from_vec.result kept c.in_ok-rise.rise.refused came c.settle.ensures.counted c.settle.ensures.answered c.settle.ensures.stopped
    (λ id rail is there. c.settle.ensures.fault id rail is (ap (λ (b : Board). slice_get b.rails id.0) (sym c.requires.board) ∙ there))
    (subst (λ (b : Board). IfSome c.in_ok-rise.rise.refused (λ id. id.0 < length b.rails)) (sym c.requires.board) c.in_ok-rise.ensures.there)
