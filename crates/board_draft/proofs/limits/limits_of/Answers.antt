use Rattle.std.proofs.Common.{ℕ, ◌∙◌, ◌++◌, [], ◌∷◌, map, take, sym, ap}
use Rattle.std.proofs.lemmas.Result.{err_from_is_err_and}
use Rattle.constraints.specs.Node.{constraints_at}
use Rattle.board_nodes.specs.Rails.{Found, seen}
use Rattle.board_nodes.specs.declared.rail_node.RailNode.{RailNode}
use Rattle.board_draft.specs.Faults.{rail_fault}
use Rattle.board_draft.proofs.Walks.{place_at, places_end, nothing_more, told_here, nothing_at_all, map_more, map_all, map_map}
use Rattle.board_draft.proofs.limits.limits_of.Goals as goal

pub returns-in_err-asked-clause-fault : goal.returns-in_err-asked-clause-fault
returns-in_err-asked-clause-fault c =
    let p = err_from_is_err_and c.from_residual-in_err-asked.result c.from_residual-in_err-asked.ensures.1 in
    let there = place_at seen c.args.rails.now c.loop-r.r c.index-rails-r.result c.loop-r-test.true c.index-rails-r.is in
    rw (p.1, p.2) (λ ne. told_here (λ (rail : ℕ × Found). rail_fault c.args.tree.now rail.0 rail.1) _ c.loop-r.r _ _ there (c.in_err-asked.ensures.fault ne) c.loop-r.invariant.told)

pub loop-r-preserved : goal.loop-r-preserved
loop-r-preserved c =
    let rails = c.args.rails.now in
    let there = place_at seen rails c.loop-r.r c.index-rails-r.result c.loop-r-test.true c.index-rails-r.is in
    record {
      told = nothing_more (λ (rail : ℕ × Found). rail_fault c.args.tree.now rail.0 rail.1) _ c.loop-r.r _ there c.in_ok-asked.ensures.none c.loop-r.invariant.told;
      limits = c.in_ok-push.ensures.items
          ∙ ap (λ s. s ++ c.in_ok-asked.asked ∷ []) c.loop-r.invariant.limits
          ∙ ap (λ s. map (λ (rail : RailNode). constraints_at c.args.tree.now rail.node rail.desc) (take c.loop-r.r rails) ++ s ∷ []) c.in_ok-asked.ensures.limits
          ∙ map_more (λ (rail : RailNode). constraints_at c.args.tree.now rail.node rail.desc) rails c.loop-r.r c.index-rails-r.result c.loop-r-test.true c.index-rails-r.is;
    }

pub returns-clause-none : goal.returns-clause-none
returns-clause-none c =
    nothing_at_all (λ (rail : ℕ × Found). rail_fault c.args.tree.now rail.0 rail.1) _ c.loop-r.r (places_end seen c.args.rails.now c.loop-r.r c.loop-r-test.false) c.loop-r.invariant.told

pub returns-clause-limits : goal.returns-clause-limits
returns-clause-limits c =
    let rails = c.args.rails.now in
    c.from_vec.ensures
    ∙ map_all (λ (rail : RailNode). constraints_at c.args.tree.now rail.node rail.desc) rails c.loop-r.r c.loop-r.limits.items c.loop-r-test.false c.loop-r.invariant.limits
    ∙ sym (map_map (λ (rail : Found). constraints_at c.args.tree.now rail.node rail.desc) seen rails)

pub returns-in_err-push-clause-fault : goal.returns-in_err-push-clause-fault
returns-in_err-push-clause-fault c =
    let p = err_from_is_err_and c.from_residual-in_err-push.result c.from_residual-in_err-push.ensures.1 in
    rw p.1 (λ ne. absurd (ne p.2))
