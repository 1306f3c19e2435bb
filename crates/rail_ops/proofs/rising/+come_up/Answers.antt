use Rattle.std.proofs.Common.{◌≡◌, ◌+◌, ◌-◌, ℕ, false, List, [], ◌∷◌, Option, Some, None, sym, ap, ◌∙◌, subst, arith, slice_get, eqb, All}
use Rattle.std.specs.Prelude.{Contains, option_map}
use Rattle.std.proofs.lemmas.Option.{slice_get_within}
use Rattle.std.proofs.lemmas.Result.{err_from_is_err_and}
use Rattle.reg_outside.specs.Bus.{Bus, told_by}
use Rattle.board.specs.declared.board.Board.{Board}
use Rattle.board.specs.declared.part.Part.TheVariants.{Enable as EnableBit}
use Rattle.board.specs.declared.rail_id.RailId.{RailId}
use Rattle.board.specs.Valid.{IsValid}
use Rattle.rail_state.specs.Sight.{IsGuarded, IsOwned}
use Rattle.plain_board.specs.Answer.{enable_time}
use Rattle.plain_board.specs.Plan.{switch, upward}
use Rattle.rail_ops.specs.Sight.{shown_by}
use Rattle.rail_ops.specs.Taking.{Tells, updates_of}
use Rattle.rail_ops.specs.Inside.Raised.{raised}
use Rattle.rail_ops.specs.Inside.Rising.{CameUp, LeadsUp, WentUp, rises}
use Rattle.rail_ops.proofs.CameUp.{all_came, came_none, came_off, came_on, came_over, came_same, came_up_too, few_rise, if_some_map, mid_shows, none_is, none_mapped, some_mapped, way_short, went_further, went_off}
use Rattle.rail_ops.proofs.Ready.{guarded}
use Rattle.rail_ops.proofs.Ways.{above, apart_above, first_of, leads_above, nothing_above, rest_of, supply_there, upheld, way_is, way_long}
use Rattle.rail_ops.proofs.rising.+come_up.Goals as goal

pub returns-in_default-clause-rises : goal.returns-in_default-clause-rises
returns-in_default-clause-rises g t c plain seen =
    let hands = shown_by g.R.Rails.board g.R.Rails.rails g.R.Rails.bits g.R.Rails.states c.args.rails.now in
    let bus = told_by g.W.Wire.accepted g.W.Wire.plan g.W.Wire.faults c.args.wire.now in
    let none : upward c.args.board.now.graph c.args.most (option_map (λ (id : RailId). id.0) c.args.r) ≡ [] =
    ap (λ (o : Option RailId). upward c.args.board.now.graph c.args.most (option_map (λ (id : RailId). id.0) o)) c.in_default.is ∙ nothing_above c.args.board.now.graph c.args.most in
    subst (λ (rails : List ℕ). CameUp hands hands bus bus 0 0 None plain (rises hands.board plain.regs rails)) (sym none) (came_none hands bus plain seen)

pub come_up-requires : goal.come_up-requires
come_up-requires g t c κs within =
    let board = c.args.board.now in
    let rail = c.rail_at-rail.result.now in
    let up = subst (λ (o : Option RailId). LeadsUp board c.args.most (option_map (λ (id : RailId). id.0) o)) c.in-Some.is c.requires.up in
    let held = subst (λ (o : Option RailId). All (λ i. Contains (g.R.Rails.rails c.args.rails.now) i) (upward board.graph c.args.most (option_map (λ (id : RailId). id.0) o))) c.in-Some.is c.requires.held in
    let owned = subst (λ (o : Option RailId). All (IsOwned board (g.R.Rails.rails c.args.rails.now)) (upward board.graph c.args.most (option_map (λ (id : RailId). id.0) o))) c.in-Some.is c.requires.owned in
    let long = way_long board c.requires.valid c.args.most c.in-Some.r.0 rail c.rail_at-rail.ensures up in (
      omega (arith, c.decreases, long),
      (
        within.0,
        (
          within.1,
          (
            c.requires.valid,
            (
              c.requires.untied,
              (
                c.requires.places,
                (
                  c.requires.fits,
                  (
                    c.requires.board,
                    (
                      supply_there board c.requires.valid c.args.most c.in-Some.r.0 rail c.rail_at-rail.ensures up,
                      (
                        omega (arith, c.requires.few),
                        (
                          leads_above board c.requires.valid c.args.most c.in-Some.r.0 rail c.rail_at-rail.ensures up,
                          (
                            rest_of board c.requires.valid c.args.most c.in-Some.r.0 rail c.rail_at-rail.ensures up (λ i. Contains (g.R.Rails.rails c.args.rails.now) i) held,
                            (
                              rest_of board c.requires.valid c.args.most c.in-Some.r.0 rail c.rail_at-rail.ensures up (IsOwned board (g.R.Rails.rails c.args.rails.now)) owned,
                              c.requires.seen,
                            ),
                          ),
                        ),
                      ),
                    ),
                  ),
                ),
              ),
            ),
          ),
        ),
      ),
    )

pub returns-in_err-above-clause-err : goal.returns-in_err-above-clause-err
returns-in_err-above-clause-err g t c =
    let board = c.args.board.now in
    let first = shown_by g.R.Rails.board g.R.Rails.rails g.R.Rails.bits g.R.Rails.states c.args.rails.now in
    let mid = shown_by g.R.Rails.board g.R.Rails.rails g.R.Rails.bits g.R.Rails.states c.come_up.new.rails in
    let bus = told_by g.W.Wire.accepted g.W.Wire.plan g.W.Wire.faults c.args.wire.now in
    let bus' = told_by g.W.Wire.accepted g.W.Wire.plan g.W.Wire.faults c.come_up.new.wire in
    let rail = c.rail_at-rail.result.now in
    let r = c.in-Some.r.0 in
    let up = subst (λ (o : Option RailId). LeadsUp board c.args.most (option_map (λ (id : RailId). id.0) o)) c.in-Some.is c.requires.up in
    let higher = above board c.requires.valid c.args.most r rail c.rail_at-rail.ensures up in
    let apart = apart_above board c.requires.valid c.args.most r rail c.rail_at-rail.ensures up in
    let at : slice_get first.board.rails r ≡ Some rail = ap (λ (b : Board). slice_get b.rails r) c.requires.board ∙ c.rail_at-rail.ensures in
    let valid = subst IsValid (sym c.requires.board) c.requires.valid in
    let way : upward board.graph c.args.most (option_map (λ (id : RailId). id.0) c.args.r) ≡ r ∷ higher =
    ap (λ (o : Option RailId). upward board.graph c.args.most (option_map (λ (id : RailId). id.0) o)) c.in-Some.is ∙ way_is board c.requires.valid c.args.most r rail c.rail_at-rail.ensures up in
    let exit = err_from_is_err_and c.from_residual.result c.from_residual.ensures.1 in
    let went = c.in_err-above.ensures.err in
    rw exit.1 (
      went.0,
      λ plain seen.
          subst (λ (rails : List ℕ). WentUp first mid bus bus' went.0 false plain (rises first.board plain.regs rails)) (sym way)
          (went_further first valid plain seen r rail at higher apart bus bus' went.0 mid false (went.1 plain seen)),
    )

pub seen_on-requires-clause-guarded : goal.seen_on-requires-clause-guarded
seen_on-requires-clause-guarded g t c =
    let board = c.args.board.now in
    let rail = c.rail_at-rail.result.now in
    let up = subst (λ (o : Option RailId). LeadsUp board c.args.most (option_map (λ (id : RailId). id.0) o)) c.in-Some.is c.requires.up in
    let held = subst (λ (o : Option RailId). All (λ i. Contains (g.R.Rails.rails c.args.rails.now) i) (upward board.graph c.args.most (option_map (λ (id : RailId). id.0) o))) c.in-Some.is c.requires.held in
    guarded board c.requires.valid (g.R.Rails.rails c.come_up.new.rails) c.in-Some.r.0 (slice_get_within board.rails c.in-Some.r.0 rail c.rail_at-rail.ensures)
    (subst (λ (rs : List ℕ). Contains rs c.in-Some.r.0) (sym c.in_ok-above.ensures.rails)
    (first_of board c.requires.valid c.args.most c.in-Some.r.0 rail c.rail_at-rail.ensures up (λ i. Contains (g.R.Rails.rails c.args.rails.now) i) held))

pub returns-then-is_some-clause-rises : goal.returns-then-is_some-clause-rises
returns-then-is_some-clause-rises g t c plain seen =
    let board = c.args.board.now in
    let first = shown_by g.R.Rails.board g.R.Rails.rails g.R.Rails.bits g.R.Rails.states c.args.rails.now in
    let mid = shown_by g.R.Rails.board g.R.Rails.rails g.R.Rails.bits g.R.Rails.states c.come_up.new.rails in
    let bus = told_by g.W.Wire.accepted g.W.Wire.plan g.W.Wire.faults c.args.wire.now in
    let bus' = told_by g.W.Wire.accepted g.W.Wire.plan g.W.Wire.faults c.come_up.new.wire in
    let rail = c.rail_at-rail.result.now in
    let r = c.in-Some.r.0 in
    let up = subst (λ (o : Option RailId). LeadsUp board c.args.most (option_map (λ (id : RailId). id.0) o)) c.in-Some.is c.requires.up in
    let higher = above board c.requires.valid c.args.most r rail c.rail_at-rail.ensures up in
    let apart = apart_above board c.requires.valid c.args.most r rail c.rail_at-rail.ensures up in
    let at : slice_get first.board.rails r ≡ Some rail = ap (λ (b : Board). slice_get b.rails r) c.requires.board ∙ c.rail_at-rail.ensures in
    let valid = subst IsValid (sym c.requires.board) c.requires.valid in
    let way : upward board.graph c.args.most (option_map (λ (id : RailId). id.0) c.args.r) ≡ r ∷ higher =
    ap (λ (o : Option RailId). upward board.graph c.args.most (option_map (λ (id : RailId). id.0) o)) c.in-Some.is ∙ way_is board c.requires.valid c.args.most r rail c.rail_at-rail.ensures up in
    let refused = option_map (λ (id : RailId). id.0) c.in_ok-above.above.refused in
    subst (λ (rails : List ℕ). CameUp first mid bus bus' c.in_ok-above.above.made c.in_ok-above.above.delay refused plain (rises first.board plain.regs rails)) (sym way)
    (came_over first valid plain seen r rail at higher apart bus bus' c.in_ok-above.above.made c.in_ok-above.above.delay mid refused (c.in_ok-above.ensures.rises plain seen)
    (some_mapped (λ (id : RailId). id.0) c.in_ok-above.above.refused ∙ sym c.is_some.ensures ∙ c.if-is_some.true))

pub returns-then-seen_on-clause-rises : goal.returns-then-seen_on-clause-rises
returns-then-seen_on-clause-rises g t c plain seen =
    let board = c.args.board.now in
    let first = shown_by g.R.Rails.board g.R.Rails.rails g.R.Rails.bits g.R.Rails.states c.args.rails.now in
    let mid = shown_by g.R.Rails.board g.R.Rails.rails g.R.Rails.bits g.R.Rails.states c.come_up.new.rails in
    let bus = told_by g.W.Wire.accepted g.W.Wire.plan g.W.Wire.faults c.args.wire.now in
    let bus' = told_by g.W.Wire.accepted g.W.Wire.plan g.W.Wire.faults c.come_up.new.wire in
    let rail = c.rail_at-rail.result.now in
    let r = c.in-Some.r.0 in
    let up = subst (λ (o : Option RailId). LeadsUp board c.args.most (option_map (λ (id : RailId). id.0) o)) c.in-Some.is c.requires.up in
    let higher = above board c.requires.valid c.args.most r rail c.rail_at-rail.ensures up in
    let apart = apart_above board c.requires.valid c.args.most r rail c.rail_at-rail.ensures up in
    let at : slice_get first.board.rails r ≡ Some rail = ap (λ (b : Board). slice_get b.rails r) c.requires.board ∙ c.rail_at-rail.ensures in
    let valid = subst IsValid (sym c.requires.board) c.requires.valid in
    let way : upward board.graph c.args.most (option_map (λ (id : RailId). id.0) c.args.r) ≡ r ∷ higher =
    ap (λ (o : Option RailId). upward board.graph c.args.most (option_map (λ (id : RailId). id.0) o)) c.in-Some.is ∙ way_is board c.requires.valid c.args.most r rail c.rail_at-rail.ensures up in
    let held = subst (λ (o : Option RailId). All (λ i. Contains (g.R.Rails.rails c.args.rails.now) i) (upward board.graph c.args.most (option_map (λ (id : RailId). id.0) o))) c.in-Some.is c.requires.held in
    let now = shown_by g.R.Rails.board g.R.Rails.rails g.R.Rails.bits g.R.Rails.states c.seen_on.new.rails in
    let refused = option_map (λ (id : RailId). id.0) c.in_ok-above.above.refused in
    let none : refused ≡ None = none_mapped (λ (id : RailId). id.0) c.in_ok-above.above.refused (sym c.is_some.ensures ∙ c.if-is_some.false) in
    let same : now.board ≡ first.board = c.seen_on.ensures.same.board ∙ c.in_ok-above.ensures.board in
    let watched = subst (λ (rs : List ℕ). IsGuarded first.board rs r) (sym c.seen_on.ensures.same.rails)
    (guarded first.board valid mid.rails r (slice_get_within first.board.rails r rail at)
    (subst (λ (rs : List ℕ). Contains rs r) (sym c.in_ok-above.ensures.rails)
    (first_of board c.requires.valid c.args.most r rail c.rail_at-rail.ensures up (λ i. Contains (g.R.Rails.rails c.args.rails.now) i) held))) in
    let came = came_same first mid now bus bus' c.in_ok-above.above.made c.in_ok-above.above.delay refused plain (rises first.board plain.regs higher) c.seen_on.ensures.same (c.in_ok-above.ensures.rises plain seen) in
    subst (λ (rails : List ℕ). CameUp first now bus bus' c.in_ok-above.above.made c.in_ok-above.above.delay refused plain (rises first.board plain.regs rails)) (sym way)
    (subst (λ (o : Option ℕ). CameUp first now bus bus' c.in_ok-above.above.made c.in_ok-above.above.delay o plain (rises first.board plain.regs (r ∷ higher))) (sym none)
    (came_on first valid plain seen r rail at higher apart bus bus' c.in_ok-above.above.made c.in_ok-above.above.delay now refused came none same watched (ap (λ n. eqb n 1) (c.seen_on.ensures.same.bits r EnableBit) ∙ sym c.seen_on.ensures.value ∙ c.if-seen_on.true)))

pub switch_on-requires-clause-held : goal.switch_on-requires-clause-held
switch_on-requires-clause-held g t c =
    let board = c.args.board.now in
    let rail = c.rail_at-rail.result.now in
    let up = subst (λ (o : Option RailId). LeadsUp board c.args.most (option_map (λ (id : RailId). id.0) o)) c.in-Some.is c.requires.up in
    let held = subst (λ (o : Option RailId). All (λ i. Contains (g.R.Rails.rails c.args.rails.now) i) (upward board.graph c.args.most (option_map (λ (id : RailId). id.0) o))) c.in-Some.is c.requires.held in
    subst (λ (rs : List ℕ). Contains rs c.in-Some.r.0) (sym (c.seen_on.ensures.same.rails ∙ c.in_ok-above.ensures.rails))
    (first_of board c.requires.valid c.args.most c.in-Some.r.0 rail c.rail_at-rail.ensures up (λ i. Contains (g.R.Rails.rails c.args.rails.now) i) held)

pub switch_on-requires-clause-owned : goal.switch_on-requires-clause-owned
switch_on-requires-clause-owned g t c i guards =
    let board = c.args.board.now in
    let rail = c.rail_at-rail.result.now in
    let up = subst (λ (o : Option RailId). LeadsUp board c.args.most (option_map (λ (id : RailId). id.0) o)) c.in-Some.is c.requires.up in
    let owned = subst (λ (o : Option RailId). All (IsOwned board (g.R.Rails.rails c.args.rails.now)) (upward board.graph c.args.most (option_map (λ (id : RailId). id.0) o))) c.in-Some.is c.requires.owned in
    subst (λ (rs : List ℕ). Contains rs i) (sym (c.seen_on.ensures.same.rails ∙ c.in_ok-above.ensures.rails))
    (first_of board c.requires.valid c.args.most c.in-Some.r.0 rail c.rail_at-rail.ensures up (IsOwned board (g.R.Rails.rails c.args.rails.now)) owned i guards)

pub switch_on-requires-clause-supplied : goal.switch_on-requires-clause-supplied
switch_on-requires-clause-supplied g t c =
    let plain = c.requires.seen.0 in
    let seen = c.requires.seen.1 in
    let board = c.args.board.now in
    let first = shown_by g.R.Rails.board g.R.Rails.rails g.R.Rails.bits g.R.Rails.states c.args.rails.now in
    let mid = shown_by g.R.Rails.board g.R.Rails.rails g.R.Rails.bits g.R.Rails.states c.come_up.new.rails in
    let bus = told_by g.W.Wire.accepted g.W.Wire.plan g.W.Wire.faults c.args.wire.now in
    let bus' = told_by g.W.Wire.accepted g.W.Wire.plan g.W.Wire.faults c.come_up.new.wire in
    let rail = c.rail_at-rail.result.now in
    let r = c.in-Some.r.0 in
    let up = subst (λ (o : Option RailId). LeadsUp board c.args.most (option_map (λ (id : RailId). id.0) o)) c.in-Some.is c.requires.up in
    let higher = above board c.requires.valid c.args.most r rail c.rail_at-rail.ensures up in
    let apart = apart_above board c.requires.valid c.args.most r rail c.rail_at-rail.ensures up in
    let at : slice_get first.board.rails r ≡ Some rail = ap (λ (b : Board). slice_get b.rails r) c.requires.board ∙ c.rail_at-rail.ensures in
    let valid = subst IsValid (sym c.requires.board) c.requires.valid in
    let way : upward board.graph c.args.most (option_map (λ (id : RailId). id.0) c.args.r) ≡ r ∷ higher =
    ap (λ (o : Option RailId). upward board.graph c.args.most (option_map (λ (id : RailId). id.0) o)) c.in-Some.is ∙ way_is board c.requires.valid c.args.most r rail c.rail_at-rail.ensures up in
    let held = subst (λ (o : Option RailId). All (λ i. Contains (g.R.Rails.rails c.args.rails.now) i) (upward board.graph c.args.most (option_map (λ (id : RailId). id.0) o))) c.in-Some.is c.requires.held in
    let now = shown_by g.R.Rails.board g.R.Rails.rails g.R.Rails.bits g.R.Rails.states c.seen_on.new.rails in
    let refused = option_map (λ (id : RailId). id.0) c.in_ok-above.above.refused in
    let none : refused ≡ None = none_mapped (λ (id : RailId). id.0) c.in_ok-above.above.refused (sym c.is_some.ensures ∙ c.if-is_some.false) in
    let same : now.board ≡ first.board = c.seen_on.ensures.same.board ∙ c.in_ok-above.ensures.board in
    let watched = subst (λ (rs : List ℕ). IsGuarded first.board rs r) (sym c.seen_on.ensures.same.rails)
    (guarded first.board valid mid.rails r (slice_get_within first.board.rails r rail at)
    (subst (λ (rs : List ℕ). Contains rs r) (sym c.in_ok-above.ensures.rails)
    (first_of board c.requires.valid c.args.most r rail c.rail_at-rail.ensures up (λ i. Contains (g.R.Rails.rails c.args.rails.now) i) held))) in
    let came = came_same first mid now bus bus' c.in_ok-above.above.made c.in_ok-above.above.delay refused plain (rises first.board plain.regs higher) c.seen_on.ensures.same (c.in_ok-above.ensures.rises plain seen) in
    upheld board c.requires.valid c.args.most r rail c.rail_at-rail.ensures up now (raised first.board plain (rises first.board plain.regs higher)) (same ∙ c.requires.board)
    (mid_shows first valid plain seen r rail at higher apart bus bus' c.in_ok-above.above.made now c.in_ok-above.above.delay (all_came first valid plain seen r rail at higher apart bus bus' c.in_ok-above.above.made c.in_ok-above.above.delay now refused came none same watched))
    (subst (λ (rs : List ℕ). All (λ i. Contains rs i) higher) (sym (c.seen_on.ensures.same.rails ∙ c.in_ok-above.ensures.rails))
    (rest_of board c.requires.valid c.args.most r rail c.rail_at-rail.ensures up (λ i. Contains (g.R.Rails.rails c.args.rails.now) i) held))
    (if_some_map (λ (id : RailId). mid.bits id.0 EnableBit ≡ 1) (λ (id : RailId). now.bits id.0 EnableBit ≡ 1) rail.supply
    (λ id on. c.seen_on.ensures.same.bits id.0 EnableBit ∙ on) (c.in_ok-above.ensures.on (none_is c.in_ok-above.above.refused (sym c.is_some.ensures ∙ c.if-is_some.false))))

pub returns-in_err-switch_on-clause-err : goal.returns-in_err-switch_on-clause-err
returns-in_err-switch_on-clause-err g t c =
    let exit = err_from_is_err_and c.from_residual-in_err-switch_on.result c.from_residual-in_err-switch_on.ensures.1 in
    rw exit.1 (
      c.in_ok-above.above.made,
      λ plain seen.
          let board = c.args.board.now in
          let first = shown_by g.R.Rails.board g.R.Rails.rails g.R.Rails.bits g.R.Rails.states c.args.rails.now in
          let mid = shown_by g.R.Rails.board g.R.Rails.rails g.R.Rails.bits g.R.Rails.states c.come_up.new.rails in
          let bus = told_by g.W.Wire.accepted g.W.Wire.plan g.W.Wire.faults c.args.wire.now in
          let bus' = told_by g.W.Wire.accepted g.W.Wire.plan g.W.Wire.faults c.come_up.new.wire in
          let rail = c.rail_at-rail.result.now in
          let r = c.in-Some.r.0 in
          let up = subst (λ (o : Option RailId). LeadsUp board c.args.most (option_map (λ (id : RailId). id.0) o)) c.in-Some.is c.requires.up in
          let higher = above board c.requires.valid c.args.most r rail c.rail_at-rail.ensures up in
          let apart = apart_above board c.requires.valid c.args.most r rail c.rail_at-rail.ensures up in
          let at : slice_get first.board.rails r ≡ Some rail = ap (λ (b : Board). slice_get b.rails r) c.requires.board ∙ c.rail_at-rail.ensures in
          let valid = subst IsValid (sym c.requires.board) c.requires.valid in
          let way : upward board.graph c.args.most (option_map (λ (id : RailId). id.0) c.args.r) ≡ r ∷ higher =
          ap (λ (o : Option RailId). upward board.graph c.args.most (option_map (λ (id : RailId). id.0) o)) c.in-Some.is ∙ way_is board c.requires.valid c.args.most r rail c.rail_at-rail.ensures up in
          let held = subst (λ (o : Option RailId). All (λ i. Contains (g.R.Rails.rails c.args.rails.now) i) (upward board.graph c.args.most (option_map (λ (id : RailId). id.0) o))) c.in-Some.is c.requires.held in
          let now = shown_by g.R.Rails.board g.R.Rails.rails g.R.Rails.bits g.R.Rails.states c.seen_on.new.rails in
          let refused = option_map (λ (id : RailId). id.0) c.in_ok-above.above.refused in
          let none : refused ≡ None = none_mapped (λ (id : RailId). id.0) c.in_ok-above.above.refused (sym c.is_some.ensures ∙ c.if-is_some.false) in
          let same : now.board ≡ first.board = c.seen_on.ensures.same.board ∙ c.in_ok-above.ensures.board in
          let watched = subst (λ (rs : List ℕ). IsGuarded first.board rs r) (sym c.seen_on.ensures.same.rails)
          (guarded first.board valid mid.rails r (slice_get_within first.board.rails r rail at)
          (subst (λ (rs : List ℕ). Contains rs r) (sym c.in_ok-above.ensures.rails)
          (first_of board c.requires.valid c.args.most r rail c.rail_at-rail.ensures up (λ i. Contains (g.R.Rails.rails c.args.rails.now) i) held))) in
          let came = came_same first mid now bus bus' c.in_ok-above.above.made c.in_ok-above.above.delay refused plain (rises first.board plain.regs higher) c.seen_on.ensures.same (c.in_ok-above.ensures.rises plain seen) in
          let after = shown_by g.R.Rails.board g.R.Rails.rails g.R.Rails.bits g.R.Rails.states c.switch_on.new.rails in
          subst (λ (rails : List ℕ). WentUp first after bus (told_by g.W.Wire.accepted g.W.Wire.plan g.W.Wire.faults c.switch_on.new.wire) c.in_ok-above.above.made false plain (rises first.board plain.regs rails)) (sym way)
          (subst (λ (b : Bus). WentUp first after bus b c.in_ok-above.above.made false plain (rises first.board plain.regs (r ∷ higher))) (sym c.in_err-switch_on.ensures.untried)
          (went_off first valid plain seen r rail at higher apart bus bus' c.in_ok-above.above.made c.in_ok-above.above.delay now refused came none same watched (ap (λ n. eqb n 1) (c.seen_on.ensures.same.bits r EnableBit) ∙ sym c.seen_on.ensures.value ∙ c.if-seen_on.false) after c.in_err-switch_on.ensures.err)),
    )

pub returns-then-not-branch-clause-rises : goal.returns-then-not-branch-clause-rises
returns-then-not-branch-clause-rises g t c plain seen =
    let board = c.args.board.now in
    let first = shown_by g.R.Rails.board g.R.Rails.rails g.R.Rails.bits g.R.Rails.states c.args.rails.now in
    let mid = shown_by g.R.Rails.board g.R.Rails.rails g.R.Rails.bits g.R.Rails.states c.come_up.new.rails in
    let bus = told_by g.W.Wire.accepted g.W.Wire.plan g.W.Wire.faults c.args.wire.now in
    let bus' = told_by g.W.Wire.accepted g.W.Wire.plan g.W.Wire.faults c.come_up.new.wire in
    let rail = c.rail_at-rail.result.now in
    let r = c.in-Some.r.0 in
    let up = subst (λ (o : Option RailId). LeadsUp board c.args.most (option_map (λ (id : RailId). id.0) o)) c.in-Some.is c.requires.up in
    let higher = above board c.requires.valid c.args.most r rail c.rail_at-rail.ensures up in
    let apart = apart_above board c.requires.valid c.args.most r rail c.rail_at-rail.ensures up in
    let at : slice_get first.board.rails r ≡ Some rail = ap (λ (b : Board). slice_get b.rails r) c.requires.board ∙ c.rail_at-rail.ensures in
    let valid = subst IsValid (sym c.requires.board) c.requires.valid in
    let way : upward board.graph c.args.most (option_map (λ (id : RailId). id.0) c.args.r) ≡ r ∷ higher =
    ap (λ (o : Option RailId). upward board.graph c.args.most (option_map (λ (id : RailId). id.0) o)) c.in-Some.is ∙ way_is board c.requires.valid c.args.most r rail c.rail_at-rail.ensures up in
    let held = subst (λ (o : Option RailId). All (λ i. Contains (g.R.Rails.rails c.args.rails.now) i) (upward board.graph c.args.most (option_map (λ (id : RailId). id.0) o))) c.in-Some.is c.requires.held in
    let now = shown_by g.R.Rails.board g.R.Rails.rails g.R.Rails.bits g.R.Rails.states c.seen_on.new.rails in
    let refused = option_map (λ (id : RailId). id.0) c.in_ok-above.above.refused in
    let none : refused ≡ None = none_mapped (λ (id : RailId). id.0) c.in_ok-above.above.refused (sym c.is_some.ensures ∙ c.if-is_some.false) in
    let same : now.board ≡ first.board = c.seen_on.ensures.same.board ∙ c.in_ok-above.ensures.board in
    let watched = subst (λ (rs : List ℕ). IsGuarded first.board rs r) (sym c.seen_on.ensures.same.rails)
    (guarded first.board valid mid.rails r (slice_get_within first.board.rails r rail at)
    (subst (λ (rs : List ℕ). Contains rs r) (sym c.in_ok-above.ensures.rails)
    (first_of board c.requires.valid c.args.most r rail c.rail_at-rail.ensures up (λ i. Contains (g.R.Rails.rails c.args.rails.now) i) held))) in
    let came = came_same first mid now bus bus' c.in_ok-above.above.made c.in_ok-above.above.delay refused plain (rises first.board plain.regs higher) c.seen_on.ensures.same (c.in_ok-above.ensures.rises plain seen) in
    let after = shown_by g.R.Rails.board g.R.Rails.rails g.R.Rails.bits g.R.Rails.states c.switch_on.new.rails in
    let last = told_by g.W.Wire.accepted g.W.Wire.plan g.W.Wire.faults c.switch_on.new.wire in
    subst (λ (rails : List ℕ). CameUp first after bus last c.in_ok-above.above.made c.in_ok-above.above.delay (Some r) plain (rises first.board plain.regs rails)) (sym way)
    (came_off first valid plain seen r rail at higher apart bus bus' c.in_ok-above.above.made c.in_ok-above.above.delay now refused came none same watched (ap (λ n. eqb n 1) (c.seen_on.ensures.same.bits r EnableBit) ∙ sym c.seen_on.ensures.value ∙ c.if-seen_on.false) after last
    (c.in_ok-switch_on.ensures.refused c.if-not-branch.true) (c.in_ok-switch_on.ensures.stopped c.if-not-branch.true))

pub overflow_add-result : goal.overflow_add-result
overflow_add-result g t c =
    let plain = c.requires.seen.0 in
    let seen = c.requires.seen.1 in
    let board = c.args.board.now in
    let way = upward board.graph (c.args.most - 1) (option_map (λ (id : RailId). id.0) c.rail_at-rail.result.now.supply) in
    let came = c.in_ok-above.ensures.rises plain seen in
    let within = came.went.within in
    let few = few_rise (g.R.Rails.board c.args.rails.now) plain.regs way in
    let short = way_short board.graph (c.args.most - 1) (option_map (λ (id : RailId). id.0) c.rail_at-rail.result.now.supply) in
    omega (arith, within, few, short, c.requires.few)

pub returns-clause-rises : goal.returns-clause-rises
returns-clause-rises g t c plain seen =
    let board = c.args.board.now in
    let first = shown_by g.R.Rails.board g.R.Rails.rails g.R.Rails.bits g.R.Rails.states c.args.rails.now in
    let mid = shown_by g.R.Rails.board g.R.Rails.rails g.R.Rails.bits g.R.Rails.states c.come_up.new.rails in
    let bus = told_by g.W.Wire.accepted g.W.Wire.plan g.W.Wire.faults c.args.wire.now in
    let bus' = told_by g.W.Wire.accepted g.W.Wire.plan g.W.Wire.faults c.come_up.new.wire in
    let rail = c.rail_at-rail.result.now in
    let r = c.in-Some.r.0 in
    let up = subst (λ (o : Option RailId). LeadsUp board c.args.most (option_map (λ (id : RailId). id.0) o)) c.in-Some.is c.requires.up in
    let higher = above board c.requires.valid c.args.most r rail c.rail_at-rail.ensures up in
    let apart = apart_above board c.requires.valid c.args.most r rail c.rail_at-rail.ensures up in
    let at : slice_get first.board.rails r ≡ Some rail = ap (λ (b : Board). slice_get b.rails r) c.requires.board ∙ c.rail_at-rail.ensures in
    let valid = subst IsValid (sym c.requires.board) c.requires.valid in
    let way : upward board.graph c.args.most (option_map (λ (id : RailId). id.0) c.args.r) ≡ r ∷ higher =
    ap (λ (o : Option RailId). upward board.graph c.args.most (option_map (λ (id : RailId). id.0) o)) c.in-Some.is ∙ way_is board c.requires.valid c.args.most r rail c.rail_at-rail.ensures up in
    let held = subst (λ (o : Option RailId). All (λ i. Contains (g.R.Rails.rails c.args.rails.now) i) (upward board.graph c.args.most (option_map (λ (id : RailId). id.0) o))) c.in-Some.is c.requires.held in
    let now = shown_by g.R.Rails.board g.R.Rails.rails g.R.Rails.bits g.R.Rails.states c.seen_on.new.rails in
    let refused = option_map (λ (id : RailId). id.0) c.in_ok-above.above.refused in
    let none : refused ≡ None = none_mapped (λ (id : RailId). id.0) c.in_ok-above.above.refused (sym c.is_some.ensures ∙ c.if-is_some.false) in
    let same : now.board ≡ first.board = c.seen_on.ensures.same.board ∙ c.in_ok-above.ensures.board in
    let watched = subst (λ (rs : List ℕ). IsGuarded first.board rs r) (sym c.seen_on.ensures.same.rails)
    (guarded first.board valid mid.rails r (slice_get_within first.board.rails r rail at)
    (subst (λ (rs : List ℕ). Contains rs r) (sym c.in_ok-above.ensures.rails)
    (first_of board c.requires.valid c.args.most r rail c.rail_at-rail.ensures up (λ i. Contains (g.R.Rails.rails c.args.rails.now) i) held))) in
    let came = came_same first mid now bus bus' c.in_ok-above.above.made c.in_ok-above.above.delay refused plain (rises first.board plain.regs higher) c.seen_on.ensures.same (c.in_ok-above.ensures.rises plain seen) in
    let after = shown_by g.R.Rails.board g.R.Rails.rails g.R.Rails.bits g.R.Rails.states c.switch_on.new.rails in
    let last = told_by g.W.Wire.accepted g.W.Wire.plan g.W.Wire.faults c.switch_on.new.wire in
    let time : c.from.result ≡ enable_time rail = c.from.ensures ∙ c.enable_time.ensures in
    subst (λ (rails : List ℕ). CameUp first after bus last (c.in_ok-above.above.made + 1) (c.in_ok-above.above.delay + c.from.result) None plain (rises first.board plain.regs rails)) (sym way)
    (subst (λ (n : ℕ). CameUp first after bus last (c.in_ok-above.above.made + 1) (c.in_ok-above.above.delay + n) None plain (rises first.board plain.regs (r ∷ higher))) (sym time)
    (came_up_too first valid plain seen r rail at higher apart bus bus' c.in_ok-above.above.made c.in_ok-above.above.delay now refused came none same watched (ap (λ n. eqb n 1) (c.seen_on.ensures.same.bits r EnableBit) ∙ sym c.seen_on.ensures.value ∙ c.if-seen_on.false) after last
    (c.in_ok-switch_on.ensures.made c.if-not-branch.false)
    (subst (λ (b : Board). Tells (updates_of b (switch 1 r ∷ [])) false bus' last) (sym c.requires.board) (c.in_ok-switch_on.ensures.took c.if-not-branch.false))))
