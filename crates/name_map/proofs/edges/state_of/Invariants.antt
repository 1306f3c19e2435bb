use Rattle.std.proofs.Common.{◌≡◌, ◌<◌, Some}
use Rattle.name_map.specs.Inside.States.{walk}
use Rattle.name_map.proofs.edges.state_of.Given as goal

abbrev pub invariant-loop-k : goal.invariant-loop-k
invariant-loop-k l = record {
  below : l.state < 4294967296;
  led : walk l.edges l.name l.k ≡ Some l.state;
}
