use Rattle.std.proofs.Common.{◌≡◌, ◌≤◌, ◌+◌, ◌-◌, length, drop}
use Rattle.dts_lex.specs.Scan.{string_end}
use Rattle.dts_lex.proofs.scan.string_end.Given as goal

abbrev pub invariant-loop-at : goal.invariant-loop-at
invariant-loop-at l = record {
  inside : l.at ≤ length l.text;
  same_end : string_end l.quote l.at (drop l.at l.text) ≡ string_end l.quote (l.quote + 1) (drop (l.quote + 1) l.text);
}

abbrev pub decreases-loop-at : goal.decreases-loop-at
decreases-loop-at l = length l.text - l.at
