use Rattle.std.proofs.Common.{◌≡◌, ℕ, ◌+◌, ◌≤◌, ◌++◌, length, map, take, get_or}
use Rattle.dts_tree.specs.Inside.Listing.{listed_of}
use Rattle.dts_tree.proofs.ListingLemmas.{rest_at, Waits}
use Rattle.dts_tree.proofs.tree.listing.listing_of.Given as goal

abbrev pub invariant-loop-number : goal.invariant-loop-number
invariant-loop-number l = record {
  listed : l.places.items ≡ listed_of (map (λ e. e.0.0) l.fn.properties) (take l.number-index l.order);
  long : length l.starts.items ≡ l.number-index + 1;
  begins : (j : ℕ) → j ≤ l.number-index → get_or l.starts.items j 0 ≡ length (listed_of (map (λ e. e.0.0) l.fn.properties) (take j l.order));
}

abbrev pub invariant-loop-waiting : goal.invariant-loop-waiting
invariant-loop-waiting l = record {
  waits : Waits (map (λ e. e.0.0) l.fn.properties) (get_or l.order l.number-index 0) l.waiting;
  left : l.places.items ++ rest_at (map (λ e. e.0.0) l.fn.properties) (get_or l.order l.number-index 0) l.waiting ≡ listed_of (map (λ e. e.0.0) l.fn.properties) (take (l.number-index + 1) l.order);
}

abbrev pub decreases-loop-waiting : goal.decreases-loop-waiting
decreases-loop-waiting l = length (rest_at (map (λ e. e.0.0) l.fn.properties) (get_or l.order l.number-index 0) l.waiting)
