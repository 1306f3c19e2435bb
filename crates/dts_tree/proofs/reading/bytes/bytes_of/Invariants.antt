use Rattle.std.proofs.Common.{◌≡◌, ◌≤◌, ◌-◌, ◌++◌, length, drop}
use Rattle.dts_tree.specs.Lexeme.{bytes_of}
use Rattle.dts_tree.proofs.reading.bytes.bytes_of.Given as goal

abbrev pub invariant-loop-at : goal.invariant-loop-at
invariant-loop-at l = record {
  inside : l.at ≤ length l.word;
  left : l.bytes.items ++ bytes_of (drop l.at l.word) ≡ bytes_of l.word;
}

abbrev pub decreases-loop-at : goal.decreases-loop-at
decreases-loop-at l = length l.word - l.at
