use Rattle.std.proofs.Common.{◌∙◌, ◌++◌, [], ◌∷◌, Some, None, map, take, sym, ap}
use Rattle.std.specs.List.{list_any, filter_map}
use Rattle.std.specs.Option.{is_none}
use Rattle.board_nodes.specs.Rails.{seen}
use Rattle.board_draft.specs.Links.{rail_of_cell}
use Rattle.board_draft.proofs.Walks.{map_one_more}
use Rattle.board_draft.proofs.CoupleLemmas.{among-some, among-none, lacking-some, lacking-none}
use Rattle.board_draft.proofs.couples.rails_among.Goals as goal
use Rattle.board_draft.proofs.couples.rails_among.Goals.{in-Some+in_ok-push-in-Some, in-None}

pub loop-cell-preserved : goal.loop-cell-preserved
loop-cell-preserved c =
    let rails = map seen c.args.rails.now in
    let stand = rail_of_cell c.args.tree.now rails in
    let before = map stand (take c.loop-cell.cell-index c.args.cells.now) in
    let inside = c.loop-cell-test.true in
    elim c.match-rail_of_cell.branch [
      | in-Some+in_ok-push-in-Some w ↦
          let more = map_one_more stand c.args.cells.now c.loop-cell.cell-index _ (Some w.in-Some.rail) inside w.in-Some.ensures in
          record {
            among = ap (λ v. v.items) w.among-is ∙ w.in_ok-push-in-Some.ensures.items ∙ ap (λ s. s ++ w.in-Some.rail ∷ []) c.loop-cell.invariant.among
                ∙ sym (among-some before w.in-Some.rail) ∙ ap (filter_map (λ named. named)) (sym more);
            lacking = w.lacking-is ∙ c.loop-cell.invariant.lacking ∙ sym (lacking-some before w.in-Some.rail) ∙ ap (list_any is_none) (sym more);
          }
      | in-None w ↦
          let more = map_one_more stand c.args.cells.now c.loop-cell.cell-index _ None inside w.in-None.ensures in
          record {
            among = ap (λ v. v.items) w.among-is ∙ c.loop-cell.invariant.among ∙ sym (among-none before) ∙ ap (filter_map (λ named. named)) (sym more);
            lacking = w.lacking-is ∙ sym (lacking-none before) ∙ ap (list_any is_none) (sym more);
          }
    ]
