-- Two rails are told exactly where they are too far apart while the board is suspended.
use Rattle.std.proofs.Common.{◌≡◌, ℕ, zero, suc, ◌<◌, Bool, true, false, ◌||◌, not, eqb, List, [], ◌∷◌, Option, Some, None, inl, inr, refl, sym, ap, arith, length}
use Rattle.std.specs.Prelude.{◌↔◌, find, option_map, slice_get}
use Rattle.std.specs.Int.{abs_diff}
use Rattle.std.specs.List.{list_any, range_with_len}
use Rattle.std.specs.Option.{option_and_then}
use Rattle.std.proofs.lemmas.Bool.{and_parts, and_from, or_cases, or_left, or_right, both_ways, false_from_ne_true, ltb-true, lt-ltb, ne_eqb, eqb-false, not-true}
use Rattle.std.proofs.lemmas.Option.{slice_get_within}
use Rattle.board_graph.specs.Sets.{is_block_of}
use Rattle.board_graph.proofs.SetLaws.{one_block, block_is}
use Rattle.board.specs.declared.board.Board.{Board}
use Rattle.board.specs.declared.rail.Rail.{Rail}
use Rattle.board_checks.specs.declared.fault.CheckFault.TheVariants.{SuspendSpread}
use Rattle.board_checks.specs.Rails.{are_coupled, spread_at}
use Rattle.board_checks.specs.Asleep.{asleep, asleep_at, are_apart, are_apart_asleep, pairs_of, suspend_fault, AreFarAsleep}
use Rattle.board_checks.proofs.Finds.{none_passes, fails_below, found_passes, no_pair, first_fails}
use Rattle.board_checks.proofs.Rails.{map_none}

-- a test of the states
abbrev states : List ℕ
states = 0 ∷ 1 ∷ 2 ∷ []

in_state : (test : ℕ → Bool) (state : ℕ) → state < 3 → test state ≡ true → list_any test states ≡ true
in_state test zero is passes = or_left _ _ passes
in_state test (suc zero) is passes = or_right _ _ (or_left _ _ passes)
in_state test (suc (suc zero)) is passes = or_right _ _ (or_right _ _ (or_left _ _ passes))
in_state test (suc (suc (suc state))) is passes = absurd (omega arith)

some_state : (test : ℕ → Bool) → list_any test states ≡ true → (state : ℕ) × (state < 3) × (test state ≡ true)
some_state test any = elim (or_cases (test 0) (test 1 || (test 2 || false)) any) [
  | inl standby ↦ (0, omega arith, standby)
  | inr later ↦ elim (or_cases (test 1) (test 2 || false) later) [
    | inl mem ↦ (1, omega arith, mem)
    | inr last ↦ elim (or_cases (test 2) false last) [ inl disk ↦ (2, omega arith, disk) | inr none ↦ absurd (cc) ]
  ]
]

-- two values that are further apart
apart_is : (spread u v : ℕ) (first second : Option ℕ) → first ≡ Some u → second ≡ Some v → spread < abs_diff u v → are_apart spread first second ≡ true
apart_is spread u v first second one other far = rw (one, other) (lt-ltb spread (abs_diff u v) far)

is_apart : (spread : ℕ) (first second : Option ℕ) → are_apart spread first second ≡ true → (u : ℕ) × (v : ℕ) × (first ≡ Some u) × (second ≡ Some v) × (spread < abs_diff u v)
is_apart spread (Some u) (Some v) far = (u, v, refl, refl, ltb-true spread (abs_diff u v) far)
is_apart spread (Some u) None far = absurd (cc)
is_apart spread None second far = absurd (cc)

far_is : (board : Board) (a b : ℕ) → AreFarAsleep board a b → are_apart_asleep board a b ≡ true
far_is board a b far =
    and_from (are_coupled board.graph a b) (list_any (λ state. are_apart (spread_at board a) (asleep_at board state a) (asleep_at board state b)) states)
    (and_from (not (eqb a b)) (is_block_of board.graph a b) (ap not (ne_eqb a b far.coupled.apart)) (block_is board.graph a b far.coupled.block))
    (in_state (λ state. are_apart (spread_at board a) (asleep_at board state a) (asleep_at board state b)) far.state far.is_state
    (apart_is (spread_at board a) far.first far.second (asleep_at board far.state a) (asleep_at board far.state b) far.first_is far.second_is far.far))

is_far : (board : Board) (a b : ℕ) → are_apart_asleep board a b ≡ true → AreFarAsleep board a b
is_far board a b is =
    let parts = and_parts (are_coupled board.graph a b) (list_any (λ state. are_apart (spread_at board a) (asleep_at board state a) (asleep_at board state b)) states) is in
    let both = and_parts (not (eqb a b)) (is_block_of board.graph a b) parts.0 in
    let there = some_state (λ state. are_apart (spread_at board a) (asleep_at board state a) (asleep_at board state b)) parts.1 in
    let values = is_apart (spread_at board a) (asleep_at board there.0 a) (asleep_at board there.0 b) there.2 in
    record {
      coupled = record { apart = eqb-false a b (not-true (eqb a b) both.0); block = one_block board.graph a b both.1 };
      state = there.0;
      is_state = there.1;
      first = values.0;
      second = values.1;
      first_is = values.2;
      second_is = values.3;
      far = values.4;
    }

-- a rail with a value is a rail of the board
has_rail : (board : Board) (state r uv : ℕ) → asleep_at board state r ≡ Some uv → r < length board.rails
has_rail board state r uv is = by (slice_get board.rails r) refl is where
  by : (o : Option Rail) → slice_get board.rails r ≡ o → option_and_then (λ rail. option_and_then asleep (slice_get rail.limits.sleeps state)) o ≡ Some uv → r < length board.rails
  by None here never = absurd (cc)
  by (Some rail) here value = slice_get_within board.rails r rail here

pub no_suspend_fault : (board : Board) → suspend_fault board ≡ None ↔ ((a b : ℕ) → ¬ AreFarAsleep board a b)
no_suspend_fault board = (near, none) where
  near : suspend_fault board ≡ None → (a b : ℕ) → ¬ AreFarAsleep board a b
  near is a b far =
      let no_pair_found = map_none (λ pair. SuspendSpread pair.0 pair.1) (find (λ pair. are_apart_asleep board pair.0 pair.1) (pairs_of (length board.rails))) is in
      let first = has_rail board far.state a far.first far.first_is in
      let second = has_rail board far.state b far.second far.second_is in
      let no_second = first_fails (are_apart_asleep board) (range_with_len 0 (length board.rails)) 0 (length board.rails) no_pair_found a (omega arith) (omega arith) in
      both_ways (are_apart_asleep board a b) (fails_below (are_apart_asleep board a) 0 (length board.rails) no_second b (omega arith) (omega arith)) (far_is board a b far)

  none : ((a b : ℕ) → ¬ AreFarAsleep board a b) → suspend_fault board ≡ None
  none near =
      ap (option_map (λ pair. SuspendSpread pair.0 pair.1))
      (no_pair (are_apart_asleep board) (range_with_len 0 (length board.rails)) 0 (length board.rails)
      (λ a _ _. none_passes (are_apart_asleep board a) 0 (length board.rails) (λ b _ _. false_from_ne_true (are_apart_asleep board a b) (λ is. near a b (is_far board a b is)))))

pub real_suspend_fault : (board : Board) (a b : ℕ) → suspend_fault board ≡ Some (SuspendSpread a b) → AreFarAsleep board a b
real_suspend_fault board a b is = by (find (λ pair. are_apart_asleep board pair.0 pair.1) (pairs_of (length board.rails))) refl is where
  by : (o : Option (ℕ × ℕ)) → find (λ pair. are_apart_asleep board pair.0 pair.1) (pairs_of (length board.rails)) ≡ o → option_map (λ pair. SuspendSpread pair.0 pair.1) o ≡ Some (SuspendSpread a b)
      → AreFarAsleep board a b
  by None found never = absurd (cc)
  by (Some pair) found told =
      let first : pair.0 ≡ a = cc in
      let second : pair.1 ≡ b = cc in
      let passes : are_apart_asleep board pair.0 pair.1 ≡ true = found_passes (λ pair. are_apart_asleep board pair.0 pair.1) (pairs_of (length board.rails)) pair found in
      is_far board a b (rw (sym first, sym second) passes)
