use Rattle.std.proofs.Common.{◌≡◌, take, flat_map, string_bytes}
use Rattle.std.specs.List.{enumerate_from}
use Rattle.plain_board.specs.Text.{rail_text}
use Rattle.plain_board.proofs.summary_text.rails_text.Given as goal

abbrev pub invariant-loop-rail : goal.invariant-loop-rail
invariant-loop-rail l = record {
  number : l.id ≡ l.rail-index;
  lines : string_bytes l.text ≡ flat_map (rail_text l.board l.plain) (enumerate_from 0 (take l.rail-index l.rail-items));
}
