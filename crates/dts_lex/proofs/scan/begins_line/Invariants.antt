use Rattle.std.proofs.Common.{◌≡◌, ◌≤◌, take}
use Rattle.dts_lex.specs.Scan.{begins_line}
use Rattle.dts_lex.proofs.scan.begins_line.Given as goal

abbrev pub invariant-loop-start : goal.invariant-loop-start
invariant-loop-start l = record {
  before : l.start ≤ l.at;
  same_line : begins_line (take l.start l.text) ≡ begins_line (take l.at l.text);
}

abbrev pub decreases-loop-start : goal.decreases-loop-start
decreases-loop-start l = l.start
