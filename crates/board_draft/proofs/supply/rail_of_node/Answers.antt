use Rattle.std.proofs.Common.{ℕ, refl, sym, ap, eq-eqb, ne_eqb}
use Rattle.std.specs.Option.{option_map}
use Rattle.board_nodes.specs.Rails.{Found, seen}
use Rattle.board_draft.proofs.Walks.{place_at, places_end, none_more, one_here, none_at_all}
use Rattle.board_draft.proofs.supply.rail_of_node.Goals as goal

pub loop-r-init : goal.loop-r-init
loop-r-init c = refl

pub returns-then-rail-node : goal.returns-then-rail-node
returns-then-rail-node c =
    let rails = c.args.rails.now in
    let there = place_at seen rails c.loop-r.r c.index-rails-r.result c.loop-r-test.true c.index-rails-r.is in
    sym (ap (option_map (λ (rail : ℕ × Found). rail.0)) (one_here _ _ c.loop-r.r _ there (eq-eqb _ _ c.if-rail-node.true) c.loop-r.invariant))

pub loop-r-preserved : goal.loop-r-preserved
loop-r-preserved c =
    let rails = c.args.rails.now in
    let there = place_at seen rails c.loop-r.r c.index-rails-r.result c.loop-r-test.true c.index-rails-r.is in
    none_more _ _ c.loop-r.r _ there (ne_eqb _ _ c.if-rail-node.false) c.loop-r.invariant

pub returns : goal.returns
returns c = sym (ap (option_map (λ (rail : ℕ × Found). rail.0)) (none_at_all _ _ c.loop-r.r (places_end seen c.args.rails.now c.loop-r.r c.loop-r-test.false) c.loop-r.invariant))
