use Rattle.std.proofs.Common.{◌≡◌, length, take}
use Rattle.std.specs.List.{filter_map}
use Rattle.board_load.specs.Registers.{with_bytes, reset_regs}
use Rattle.session.specs.Loading.{register_in}
use Rattle.session.proofs.loading.found_regs.Given as goal

abbrev pub invariant-loop-line : goal.invariant-loop-line
invariant-loop-line l = record {
  regs : l.regs ≡ with_bytes (reset_regs l.drafted) (filter_map register_in (take l.line-index l.setup));
  chips : length l.regs ≡ l.drafted.board.chips;
}
