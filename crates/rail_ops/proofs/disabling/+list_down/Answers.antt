use Rattle.std.proofs.Common.{◌≡◌, ◌++◌, ◌∷◌, ◌-◌, ℕ, List, [], Option, sym, ap, ◌∙◌, subst, arith, map}
use Rattle.std.specs.Prelude.{option_map}
use Rattle.std.proofs.lemmas.Result.{on_ok_weaker}
use Rattle.board.specs.declared.rail_id.RailId.{RailId}
use Rattle.board.specs.declared.write.Write.{Write}
use Rattle.rail_law.specs.Moves.{writes_of}
use Rattle.plain_board.specs.Plan.{switch, upward}
use Rattle.rail_ops.specs.Inside.Rising.{LeadsUp}
use Rattle.rail_ops.proofs.GoneDown.{writes_down}
use Rattle.rail_ops.proofs.Ways.{leads_above, supply_there, way_is, way_long}
use Rattle.rail_ops.proofs.disabling.+list_down.Goals as goal

pub list_down-requires : goal.list_down-requires
list_down-requires t c =
    let board = c.args.board.now in
    let rail = c.rail_at-rail.result.now in
    let r = c.in-Some.r.0 in
    let up = subst (λ (o : Option RailId). LeadsUp board c.args.most (option_map (λ (id : RailId). id.0) o)) c.in-Some.is c.requires.up in
    let long = way_long board c.requires.valid c.args.most r rail c.rail_at-rail.ensures up in (
      omega (arith, c.decreases, long),
      (
        c.requires.valid,
        (
          supply_there board c.requires.valid c.args.most r rail c.rail_at-rail.ensures up,
          leads_above board c.requires.valid c.args.most r rail c.rail_at-rail.ensures up,
        ),
      ),
    )

pub returns : goal.returns
returns t c =
    let board = c.args.board.now in
    let rail = c.rail_at-rail.result.now in
    let r = c.in-Some.r.0 in
    let up = subst (λ (o : Option RailId). LeadsUp board c.args.most (option_map (λ (id : RailId). id.0) o)) c.in-Some.is c.requires.up in
    let higher = upward board.graph (c.args.most - 1) (option_map (λ (id : RailId). id.0) rail.supply) in
    let way : upward board.graph c.args.most (option_map (λ (id : RailId). id.0) c.args.r) ≡ r ∷ higher =
    ap (λ (o : Option RailId). upward board.graph c.args.most (option_map (λ (id : RailId). id.0) o)) c.in-Some.is ∙ way_is board c.requires.valid c.args.most r rail c.rail_at-rail.ensures up in
    record {
      ok = on_ok_weaker c.list_down.result
          (λ is.
          is
          ∙ ap (λ (items : List Write). items ++ writes_of board (map (switch 0) higher)) (c.in_ok-push.ensures.items ∙ ap (λ (write : Write). c.args.writes.now.items ++ write ∷ []) c.off_write.ensures)
          ∙ writes_down board r rail c.rail_at-rail.ensures higher c.args.writes.now.items
          ∙ ap (λ (rails : List ℕ). c.args.writes.now.items ++ writes_of board (map (switch 0) rails)) (sym way))
          c.list_down.ensures.ok;
    }
