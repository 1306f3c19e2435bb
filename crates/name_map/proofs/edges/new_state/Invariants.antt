use Rattle.std.proofs.Common.{◌≡◌, ◌≤◌, ◌+◌, ℕ, List, Some, length, take}
use Rattle.name_map.specs.Inside.States.{state_of, walk}
use Rattle.name_map.proofs.edges.new_state.Given as goal

abbrev pub invariant-loop-k : goal.invariant-loop-k
invariant-loop-k l = record {
  more : length l.initial.edges ≤ length l.edges;
  few : length l.edges ≤ length l.initial.edges + l.k;
  led : walk l.edges l.name l.k ≡ Some l.state;
  front : take (length l.initial.edges) l.edges ≡ l.initial.edges;
  stays : (state : ℕ) → state_of l.initial.edges l.name ≡ Some state → l.edges ≡ l.initial.edges;
  kept : (q : List ℕ) (state : ℕ) → state_of l.initial.edges q ≡ Some state → state_of l.edges q ≡ Some state;
}
