use Rattle.std.proofs.Common.{◌≡◌, ◌∙◌, ℕ, None, List, map, ap, subst}
use Rattle.std.specs.List.{enumerate_from}
use Rattle.std.specs.Option.{unwrap_or}
use Rattle.board_graph.specs.Order.{IsOrder}
use Rattle.board_nodes.specs.declared.rail_node.RailNode.{RailNode}
use Rattle.board_nodes.specs.Rails.{Found, seen}
use Rattle.board_draft.specs.Faults.{link_fault}
use Rattle.board_draft.specs.Links.{graph_of}
use Rattle.board_draft.specs.Sketch.{rail_at}
use Rattle.board_draft.proofs.DraftLemmas.{is_board_of, sound_board}
use Rattle.board_draft.proofs.drafting.assembled.Goals as goal

pub returns-clause-board : goal.returns-clause-board
returns-clause-board c =
    is_board_of c.args.tree.now c.args.chips c.args.nodes c.in_ok-rails.rails c.in_ok-spread.spread c.args.parts.spreads c.args.parts.graph c.args.parts.order
    c.requires.nodes.rails_are c.requires.nodes.chips_are
    (c.in_ok-rails.ensures ∙ ap (λ (ns : List RailNode). map (λ (rail : ℕ × Found). rail_at c.args.tree.now (map seen ns) rail.0 rail.1) (enumerate_from 0 (map seen ns))) c.into_vec.ensures)
    (c.in_ok-spread.ensures ∙ ap (map (λ s. unwrap_or s 0)) c.as_slice.ensures)
    c.requires.parts.spreads c.requires.parts.graph

pub returns-clause-sound : goal.returns-clause-sound
returns-clause-sound c =
    let nodes = c.args.tree.now in
    sound_board nodes c.args.chips c.args.nodes _ c.requires.nodes
    (subst (λ (found : List Found). link_fault nodes found ≡ None) c.requires.nodes.rails_are c.requires.parts.none)
    (subst (λ (found : List Found). IsOrder (graph_of nodes found) c.args.parts.order) c.requires.nodes.rails_are c.requires.parts.order)
    (returns-clause-board c)
