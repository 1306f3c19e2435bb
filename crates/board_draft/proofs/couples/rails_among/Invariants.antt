use Rattle.std.proofs.Common.{◌≡◌, map, take}
use Rattle.std.specs.List.{list_any, filter_map}
use Rattle.std.specs.Option.{is_none}
use Rattle.board_nodes.specs.Rails.{seen}
use Rattle.board_draft.specs.Links.{rail_of_cell}
use Rattle.board_draft.proofs.couples.rails_among.Given as goal

abbrev pub invariant-loop-cell : goal.invariant-loop-cell
invariant-loop-cell l =
    let stands = map (rail_of_cell l.tree (map seen l.rails)) (take l.cell-index l.cells) in
    record {
      among : l.among.items ≡ filter_map (λ named. named) stands;
      lacking : l.lacking ≡ list_any is_none stands;
    }
