use Rattle.std.proofs.Common.{◌≡◌, ◌++◌, ℕ, List, [], ◌∷◌, Option, Some, sym, ap, ◌∙◌, subst, arith, slice_get, eqb, All}
use Rattle.std.specs.Prelude.{Contains, option_map}
use Rattle.std.proofs.lemmas.Option.{slice_get_within}
use Rattle.board.specs.declared.board.Board.{Board}
use Rattle.board.specs.declared.part.Part.TheVariants.{Enable as EnableBit}
use Rattle.board.specs.declared.rail_id.RailId.{RailId}
use Rattle.board.specs.declared.write.Write.{Write}
use Rattle.board.specs.Valid.{IsValid}
use Rattle.rail_law.specs.Moves.{update_of_field, writes_of}
use Rattle.plain_board.specs.Plan.{upward}
use Rattle.rail_ops.specs.Sight.{shown_by}
use Rattle.rail_ops.specs.Inside.Rising.{LeadsUp, rises}
use Rattle.rail_ops.proofs.CameUp.{writes_off, writes_on}
use Rattle.rail_ops.proofs.Ready.{guarded}
use Rattle.rail_ops.proofs.Upheld.{enable_has_room, enable_is_field}
use Rattle.rail_ops.proofs.Ways.{above, first_of, leads_above, rest_of, supply_there, way_is, way_long}
use Rattle.rail_ops.proofs.enabling.+writes_up.Goals as goal

pub writes_up-requires : goal.writes_up-requires
writes_up-requires g t c κs within =
    let board = c.args.board.now in
    let first = shown_by g.R.Rails.board g.R.Rails.rails g.R.Rails.bits g.R.Rails.states c.args.rails.now in
    let rail = c.rail_at-rail.result.now in
    let r = c.in-Some.r.0 in
    let up = subst (λ (o : Option RailId). LeadsUp board c.args.most (option_map (λ (id : RailId). id.0) o)) c.in-Some.is c.requires.up in
    let higher = above board c.requires.valid c.args.most r rail c.rail_at-rail.ensures up in
    let at : slice_get first.board.rails r ≡ Some rail = ap (λ (b : Board). slice_get b.rails r) c.requires.board ∙ c.rail_at-rail.ensures in
    let held = subst (λ (o : Option RailId). All (λ i. Contains (g.R.Rails.rails c.args.rails.now) i) (upward board.graph c.args.most (option_map (λ (id : RailId). id.0) o))) c.in-Some.is c.requires.held in
    let way : upward board.graph c.args.most (option_map (λ (id : RailId). id.0) c.args.r) ≡ r ∷ higher =
    ap (λ (o : Option RailId). upward board.graph c.args.most (option_map (λ (id : RailId). id.0) o)) c.in-Some.is ∙ way_is board c.requires.valid c.args.most r rail c.rail_at-rail.ensures up in
    let watched = guarded first.board (subst IsValid (sym c.requires.board) c.requires.valid) first.rails r (slice_get_within first.board.rails r rail at)
    (first_of board c.requires.valid c.args.most r rail c.rail_at-rail.ensures up (λ i. Contains (g.R.Rails.rails c.args.rails.now) i) held) in
    let long = way_long board c.requires.valid c.args.most r rail c.rail_at-rail.ensures up in (
      omega (arith, c.decreases, long),
      (
        within,
        (
          c.requires.valid,
          (
            c.requires.fits,
            (
              c.requires.board,
              (
                supply_there board c.requires.valid c.args.most r rail c.rail_at-rail.ensures up,
                (
                  leads_above board c.requires.valid c.args.most r rail c.rail_at-rail.ensures up,
                  rest_of board c.requires.valid c.args.most r rail c.rail_at-rail.ensures up (λ i. Contains (g.R.Rails.rails c.args.rails.now) i) held,
                ),
              ),
            ),
          ),
        ),
      ),
    )

pub seen_on-requires-clause-guarded : goal.seen_on-requires-clause-guarded
seen_on-requires-clause-guarded g t c =
    let board = c.args.board.now in
    let first = shown_by g.R.Rails.board g.R.Rails.rails g.R.Rails.bits g.R.Rails.states c.args.rails.now in
    let rail = c.rail_at-rail.result.now in
    let r = c.in-Some.r.0 in
    let up = subst (λ (o : Option RailId). LeadsUp board c.args.most (option_map (λ (id : RailId). id.0) o)) c.in-Some.is c.requires.up in
    let higher = above board c.requires.valid c.args.most r rail c.rail_at-rail.ensures up in
    let at : slice_get first.board.rails r ≡ Some rail = ap (λ (b : Board). slice_get b.rails r) c.requires.board ∙ c.rail_at-rail.ensures in
    let held = subst (λ (o : Option RailId). All (λ i. Contains (g.R.Rails.rails c.args.rails.now) i) (upward board.graph c.args.most (option_map (λ (id : RailId). id.0) o))) c.in-Some.is c.requires.held in
    let way : upward board.graph c.args.most (option_map (λ (id : RailId). id.0) c.args.r) ≡ r ∷ higher =
    ap (λ (o : Option RailId). upward board.graph c.args.most (option_map (λ (id : RailId). id.0) o)) c.in-Some.is ∙ way_is board c.requires.valid c.args.most r rail c.rail_at-rail.ensures up in
    let watched = guarded first.board (subst IsValid (sym c.requires.board) c.requires.valid) first.rails r (slice_get_within first.board.rails r rail at)
    (first_of board c.requires.valid c.args.most r rail c.rail_at-rail.ensures up (λ i. Contains (g.R.Rails.rails c.args.rails.now) i) held) in
    guarded board c.requires.valid (g.R.Rails.rails c.writes_up.new.rails) r (slice_get_within board.rails r rail c.rail_at-rail.ensures)
    (subst (λ (rs : List ℕ). Contains rs r) (sym c.in_ok-writes.ensures.same.rails)
    (first_of board c.requires.valid c.args.most r rail c.rail_at-rail.ensures up (λ i. Contains (g.R.Rails.rails c.args.rails.now) i) held))

pub write_of-requires-clause-field : goal.write_of-requires-clause-field
write_of-requires-clause-field g t c = enable_is_field c.args.board.now c.requires.valid c.in-Some.r.0 c.rail_at-rail.result.now c.rail_at-rail.ensures

pub write_of-requires-clause-room : goal.write_of-requires-clause-room
write_of-requires-clause-room g t c = enable_has_room c.args.board.now c.requires.valid c.in-Some.r.0 c.rail_at-rail.result.now c.rail_at-rail.ensures

pub returns-then-seen_on-clause-writes : goal.returns-then-seen_on-clause-writes
returns-then-seen_on-clause-writes g t c plain shows =
    let board = c.args.board.now in
    let first = shown_by g.R.Rails.board g.R.Rails.rails g.R.Rails.bits g.R.Rails.states c.args.rails.now in
    let rail = c.rail_at-rail.result.now in
    let r = c.in-Some.r.0 in
    let up = subst (λ (o : Option RailId). LeadsUp board c.args.most (option_map (λ (id : RailId). id.0) o)) c.in-Some.is c.requires.up in
    let higher = above board c.requires.valid c.args.most r rail c.rail_at-rail.ensures up in
    let at : slice_get first.board.rails r ≡ Some rail = ap (λ (b : Board). slice_get b.rails r) c.requires.board ∙ c.rail_at-rail.ensures in
    let held = subst (λ (o : Option RailId). All (λ i. Contains (g.R.Rails.rails c.args.rails.now) i) (upward board.graph c.args.most (option_map (λ (id : RailId). id.0) o))) c.in-Some.is c.requires.held in
    let way : upward board.graph c.args.most (option_map (λ (id : RailId). id.0) c.args.r) ≡ r ∷ higher =
    ap (λ (o : Option RailId). upward board.graph c.args.most (option_map (λ (id : RailId). id.0) o)) c.in-Some.is ∙ way_is board c.requires.valid c.args.most r rail c.rail_at-rail.ensures up in
    let watched = guarded first.board (subst IsValid (sym c.requires.board) c.requires.valid) first.rails r (slice_get_within first.board.rails r rail at)
    (first_of board c.requires.valid c.args.most r rail c.rail_at-rail.ensures up (λ i. Contains (g.R.Rails.rails c.args.rails.now) i) held) in
    subst (λ (rails : List ℕ). c.in_ok-writes.writes.items ≡ writes_of first.board (rises first.board plain.regs rails)) (sym way)
    (c.in_ok-writes.ensures.writes plain shows ∙ sym (writes_on first plain shows r rail at watched higher (ap (λ n. eqb n 1) (sym (c.in_ok-writes.ensures.same.bits r EnableBit)) ∙ sym c.seen_on.ensures.value ∙ c.if-seen_on.true)))

pub returns-clause-writes : goal.returns-clause-writes
returns-clause-writes g t c plain shows =
    let board = c.args.board.now in
    let first = shown_by g.R.Rails.board g.R.Rails.rails g.R.Rails.bits g.R.Rails.states c.args.rails.now in
    let rail = c.rail_at-rail.result.now in
    let r = c.in-Some.r.0 in
    let up = subst (λ (o : Option RailId). LeadsUp board c.args.most (option_map (λ (id : RailId). id.0) o)) c.in-Some.is c.requires.up in
    let higher = above board c.requires.valid c.args.most r rail c.rail_at-rail.ensures up in
    let at : slice_get first.board.rails r ≡ Some rail = ap (λ (b : Board). slice_get b.rails r) c.requires.board ∙ c.rail_at-rail.ensures in
    let held = subst (λ (o : Option RailId). All (λ i. Contains (g.R.Rails.rails c.args.rails.now) i) (upward board.graph c.args.most (option_map (λ (id : RailId). id.0) o))) c.in-Some.is c.requires.held in
    let way : upward board.graph c.args.most (option_map (λ (id : RailId). id.0) c.args.r) ≡ r ∷ higher =
    ap (λ (o : Option RailId). upward board.graph c.args.most (option_map (λ (id : RailId). id.0) o)) c.in-Some.is ∙ way_is board c.requires.valid c.args.most r rail c.rail_at-rail.ensures up in
    let watched = guarded first.board (subst IsValid (sym c.requires.board) c.requires.valid) first.rails r (slice_get_within first.board.rails r rail at)
    (first_of board c.requires.valid c.args.most r rail c.rail_at-rail.ensures up (λ i. Contains (g.R.Rails.rails c.args.rails.now) i) held) in
    subst (λ (rails : List ℕ). c.push.new.self.items ≡ writes_of first.board (rises first.board plain.regs rails)) (sym way)
    (c.in_ok-push.ensures.items
    ∙ ap (λ (write : Write). c.in_ok-writes.writes.items ++ write ∷ []) c.write_of.ensures
    ∙ ap (λ (writes : List Write). writes ++ update_of_field (Some rail.desc.enable) 1 ∷ []) (c.in_ok-writes.ensures.writes plain shows)
    ∙ sym (writes_off first plain shows r rail at watched higher (ap (λ n. eqb n 1) (sym (c.in_ok-writes.ensures.same.bits r EnableBit)) ∙ sym c.seen_on.ensures.value ∙ c.if-seen_on.false)))
