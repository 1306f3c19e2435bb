use Rattle.std.proofs.Common.{◌≡◌, ◌≤◌, ◌-◌, ◌++◌, length, drop}
use Rattle.dts_tree.specs.Lexeme.{unescaped}
use Rattle.dts_tree.proofs.reading.bytes.unescaped.Given as goal

abbrev pub invariant-loop-at : goal.invariant-loop-at
invariant-loop-at l = record {
  inside : l.at ≤ length l.inside;
  left : l.bytes.items ++ unescaped (drop l.at l.inside) ≡ unescaped l.inside;
}

abbrev pub decreases-loop-at : goal.decreases-loop-at
decreases-loop-at l = length l.inside - l.at
