use Rattle.std.proofs.Common.{◌≡◌, ℕ, ◌∙◌, ◌++◌, [], ◌∷◌, map, take, ap}
use Rattle.std.specs.Prelude.{slice_get}
use Rattle.std.specs.List.{enumerate_from}
use Rattle.board_nodes.specs.declared.rail_node.RailNode.{RailNode}
use Rattle.board_draft.specs.Inside.Graph.{is_held_by}
use Rattle.board_draft.proofs.Walks.{numbered_more, numbered_all}
use Rattle.board_draft.proofs.graph.links_of.Goals as goal

pub loop-r-preserved : goal.loop-r-preserved
loop-r-preserved c =
    let rails = c.args.rails.now in
    let link = λ (rail : ℕ × RailNode). is_held_by c.args.limits.now (slice_get c.args.supplies.now rail.0) rail.1.desc.dropout in
    let there : c.copied.result ≡ slice_get c.args.supplies.now c.loop-r.r = c.copied.ensures ∙ c.get.ensures in
    c.in_ok-push.ensures.items
    ∙ ap (λ s. s ++ c.is_held_by-linked.result ∷ []) c.loop-r.invariant
    ∙ ap (λ b. map link (take c.loop-r.r (enumerate_from 0 rails)) ++ b ∷ []) (c.is_held_by-linked.ensures ∙ ap (λ s. is_held_by c.args.limits.now s c.index-rails-r.result.desc.dropout) there)
    ∙ numbered_more link rails c.loop-r.r c.index-rails-r.result c.loop-r-test.true c.index-rails-r.is

pub returns : goal.returns
returns c =
    let link = λ (rail : ℕ × RailNode). is_held_by c.args.limits.now (slice_get c.args.supplies.now rail.0) rail.1.desc.dropout in
    c.from_vec.ensures ∙ numbered_all link c.args.rails.now c.loop-r.r c.loop-r.links.items c.loop-r-test.false c.loop-r.invariant
