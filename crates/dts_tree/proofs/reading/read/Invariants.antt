use Rattle.std.proofs.Common.{◌≡◌, take, drop}
use Rattle.dts_tree.specs.Inside.Reader.{Counted, Kept, view_of}
use Rattle.dts_tree.specs.Inside.View.{take_all, view_start}
use Rattle.dts_tree.proofs.TakeLemmas.{reached}
use Rattle.dts_tree.proofs.reading.read.Given as goal

abbrev pub invariant-loop-token : goal.invariant-loop-token
invariant-loop-token l = record {
  left : take_all l.text (view_of l.text l.reader) (drop l.token-index l.tokens) ≡ take_all l.text view_start l.tokens;
  kept : Kept l.reader;
  counted : Counted (reached 0 (take l.token-index l.tokens)) l.reader;
}
