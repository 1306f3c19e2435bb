use Rattle.std.proofs.Common.{ℕ, ◌∙◌, ◌++◌, [], ◌∷◌, Some, map, take, sym, ap}
use Rattle.std.specs.Option.{option_map}
use Rattle.std.proofs.lemmas.Result.{err_from_is_err_and}
use Rattle.constraints.specs.Coupling.{stated_spread}
use Rattle.board_nodes.specs.declared.rail_node.RailNode.{RailNode}
use Rattle.board_nodes.specs.Rails.{Found, seen}
use Rattle.board_draft.specs.declared.fault.BoardFault.TheVariants.{NoSpread}
use Rattle.board_draft.proofs.Walks.{place_at, places_end, none_more, one_here, none_at_all, map_more, map_all, map_map}
use Rattle.board_draft.proofs.spread.spreads_of.Goals as goal

pub returns-in_err-spread-clause-fault : goal.returns-in_err-spread-clause-fault
returns-in_err-spread-clause-fault c =
    let p = err_from_is_err_and c.from_residual-in_err-spread.result c.from_residual-in_err-spread.ensures.1 in
    let there = place_at seen c.args.rails.now c.loop-r.r c.index-rails-r.result c.loop-r-test.true c.index-rails-r.is in
    rw (p.1, p.2) (λ ne.
    let told = c.in_err-spread.ensures.fault ne in
    ap (option_map (λ (rail : ℕ × Found). NoSpread rail.0)) (one_here _ _ c.loop-r.r _ there told.1 c.loop-r.invariant.found) ∙ ap Some (sym told.0))

pub loop-r-preserved : goal.loop-r-preserved
loop-r-preserved c =
    let rails = c.args.rails.now in
    let state = λ (rail : RailNode). stated_spread c.args.tree.now rail.node in
    let there = place_at seen rails c.loop-r.r c.index-rails-r.result c.loop-r-test.true c.index-rails-r.is in
    record {
      found = none_more _ _ c.loop-r.r _ there c.in_ok-spread.ensures.none c.loop-r.invariant.found;
      spreads = c.in_ok-push.ensures.items
          ∙ ap (λ s. s ++ c.in_ok-spread.spread ∷ []) c.loop-r.invariant.spreads
          ∙ ap (λ s. map state (take c.loop-r.r rails) ++ s ∷ []) c.in_ok-spread.ensures.spread
          ∙ map_more state rails c.loop-r.r c.index-rails-r.result c.loop-r-test.true c.index-rails-r.is;
    }

pub returns-clause-none : goal.returns-clause-none
returns-clause-none c = ap (option_map (λ (rail : ℕ × Found). NoSpread rail.0)) (none_at_all _ _ c.loop-r.r (places_end seen c.args.rails.now c.loop-r.r c.loop-r-test.false) c.loop-r.invariant.found)

pub returns-clause-spreads : goal.returns-clause-spreads
returns-clause-spreads c =
    let rails = c.args.rails.now in
    c.from_vec.ensures
    ∙ map_all (λ (rail : RailNode). stated_spread c.args.tree.now rail.node) rails c.loop-r.r c.loop-r.spreads.items c.loop-r-test.false c.loop-r.invariant.spreads
    ∙ sym (map_map (λ (rail : Found). stated_spread c.args.tree.now rail.node) seen rails)
