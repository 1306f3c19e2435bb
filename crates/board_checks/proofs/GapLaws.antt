-- No fault of gaps is told exactly where each changeable rail has narrow gaps, and each that is told is real.
use Rattle.std.proofs.Common.{◌≡◌, ◌≢◌, ℕ, ◌+◌, ◌<◌, ◌≤◌, Bool, true, false, ◌&&◌, not, ltb, eqb, Option, Some, None, inl, inr, refl, sym, ap, ◌∙◌, subst, arith, length}
use Rattle.std.specs.Prelude.{◌↔◌, find, option_map, slice_get, slice_index}
use Rattle.std.specs.Option.{option_map_or, option_or}
use Rattle.std.proofs.lemmas.Bool.{and_parts, and_from, both_ways, false_from_ne_true, ltb-true, lt-ltb, cases_lt, ne_eqb, eqb-false, not-true}
use Rattle.std.proofs.lemmas.Option.{slice_get-map, slice_get-get_or, slice_get_within, get_or_from_slice_get}
use Rattle.board_graph.specs.declared.graph.Graph.{Graph}
use Rattle.board_graph.specs.Graph.{count_of, AreCoupled}
use Rattle.board_graph.specs.Sets.{rails_of, is_block_of}
use Rattle.board_graph.proofs.Growth.{any_at, any_from, is_rail}
use Rattle.board_graph.proofs.SetLaws.{one_block, block_is, block_rail}
use Rattle.board.specs.declared.board.Board.{Board}
use Rattle.board.specs.declared.rail.Rail.{Rail}
use Rattle.board.specs.Rail.{allowed}
use Rattle.board.specs.Gaps.{AreNeighbours, IsSpreadOf}
use Rattle.board.specs.Valid.{IsGraphOf}
use Rattle.board_checks.specs.declared.fault.CheckFault.{CheckFault}
use Rattle.board_checks.specs.declared.fault.CheckFault.TheVariants.{GapOverSpread, GapOverStep}
use Rattle.board_checks.specs.Rails.{tests_rail, are_coupled, is_coupled, spread_at, HaveSpreads}
use Rattle.board_checks.specs.Gaps.{widest_gap, HasGap, IsWidestGap}
use Rattle.board_checks.specs.GapFault.{gap_at, step_at, is_over_spread, is_over_step, spread_fault, step_fault, gap_fault, AreNarrow, HasWideGap}
use Rattle.board_checks.proofs.Finds.{is_first, none_passes}
use Rattle.board_checks.proofs.Rails.{rail_fails, map_none}
use Rattle.board_checks.proofs.WidestGap.{widest_gap_is_lem}

-- a rail is coupled with another one, by the test
pub coupled_is : (graph : Graph) (a b : ℕ) → AreCoupled graph a b → is_coupled graph a ≡ true
coupled_is graph a b coupled =
    let block = coupled.block in
    let within : b < count_of graph = block_rail graph b a (record { group = block.group; first = block.second; second = block.first }) in
    any_at (are_coupled graph a) (rails_of graph) b (is_rail graph b within)
    (and_from (not (eqb a b)) (is_block_of graph a b) (ap not (ne_eqb a b coupled.apart)) (block_is graph a b block))

pub coupled_from : (graph : Graph) (a : ℕ) → is_coupled graph a ≡ true → (b : ℕ) × AreCoupled graph a b
coupled_from graph a is =
    let there = any_from (are_coupled graph a) (rails_of graph) is in
    let both = and_parts (not (eqb a there.0)) (is_block_of graph a there.0) there.2 in
    (there.0, record { apart = eqb-false a there.0 (not-true (eqb a there.0) both.0); block = one_block graph a there.0 both.1 })

-- the spread that binds a rail is that of its group
pub spread_is : (board : Board) (r spread : ℕ) → IsSpreadOf board r spread → spread_at board r ≡ spread
spread_is board r spread of =
    ap (λ o. option_map_or (slice_index board.spread) o 0) of.in_group ∙ get_or_from_slice_get board.spread of.group spread 0 of.spread_is

-- a rail of the board, in its group
group_at : (board : Board) (r : ℕ) (rail : Rail) → IsGraphOf board → slice_get board.rails r ≡ Some rail → slice_get board.graph.group r ≡ Some rail.group
group_at board r rail graph here =
    ap (λ groups. slice_get groups r) graph.groups ∙ slice_get-map (λ (x : Rail). x.group) board.rails r ∙ ap (option_map (λ (x : Rail). x.group)) here

pub spread_from : (board : Board) (r : ℕ) (rail : Rail) → IsGraphOf board → HaveSpreads board
    → slice_get board.rails r ≡ Some rail → is_coupled board.graph r ≡ true → IsSpreadOf board r (spread_at board r)
spread_from board r rail graph spreads here is =
    let other = coupled_from board.graph r is in
    let in_group : slice_get board.graph.group r ≡ Some rail.group = group_at board r rail graph here in
    let has : rail.group < length board.spread = subst (λ (x : Rail). x.group < length board.spread) (get_or_from_slice_get board.rails r rail rail here)
    (spreads r rail (slice_get_within board.rails r rail here)) in
    record {
      other = other.0;
      group = rail.group;
      coupled = other.1;
      in_group = in_group;
      spread_is = slice_get-get_or board.spread rail.group 0 has ∙ ap (λ o. Some (option_map_or (slice_index board.spread) o 0)) (sym in_group);
    }

-- the tests of a rail that is there
over_spread_at : (board : Board) (r : ℕ) (rail : Rail) → slice_get board.rails r ≡ Some rail
    → is_over_spread board r ≡ ((rail.changeable && is_coupled board.graph r) && ltb (spread_at board r) (widest_gap (allowed rail)))
over_spread_at board r rail here =
    ap (λ o. (option_map_or (λ (x : Rail). x.changeable) o false && is_coupled board.graph r) && ltb (spread_at board r) (option_map_or (λ (x : Rail). widest_gap (allowed x)) o 0)) here

over_step_at : (board : Board) (r : ℕ) (rail : Rail) → slice_get board.rails r ≡ Some rail
    → is_over_step board r ≡ ((rail.changeable && not (eqb rail.limits.max_step 0)) && ltb rail.limits.max_step (widest_gap (allowed rail)))
over_step_at board r rail here =
    ap (λ o. (option_map_or (λ (x : Rail). x.changeable) o false && not (eqb (option_map_or (λ (x : Rail). x.limits.max_step) o 0) 0))
    && ltb (option_map_or (λ (x : Rail). x.limits.max_step) o 0) (option_map_or (λ (x : Rail). widest_gap (allowed x)) o 0)) here

-- a gap that isn't above a bound is narrow
narrow_by : (p q : Bool) (bound : ℕ) (rail : Rail) (low high : ℕ) → ((p && q) && ltb bound (widest_gap (allowed rail))) ≡ false → p ≡ true → q ≡ true
    → AreNeighbours (allowed rail) low high → high ≤ low + bound
narrow_by p q bound rail low high fails first second next = elim (cases_lt bound (widest_gap (allowed rail))) [
  | inl wide ↦ absurd (both_ways _ fails (and_from (p && q) (ltb bound (widest_gap (allowed rail))) (and_from p q first second) (lt-ltb bound (widest_gap (allowed rail)) wide)))
  | inr narrow ↦ omega (arith, (widest_gap_is_lem (allowed rail)).none_wider low high next)
]

pub gaps_narrow : (board : Board) → IsGraphOf board → find (is_over_spread board) (rails_of board.graph) ≡ None → find (is_over_step board) (rails_of board.graph) ≡ None → AreNarrow board
gaps_narrow board graph no_spread no_step r rail here changeable = record {
  steps = λ limited low high next.
      narrow_by rail.changeable (not (eqb rail.limits.max_step 0)) rail.limits.max_step rail low high
      (sym (over_step_at board r rail here) ∙ rail_fails board (is_over_step board) r rail graph no_step here) changeable (ap not (ne_eqb rail.limits.max_step 0 limited)) next;
  spreads = λ spread of low high next.
      let near = narrow_by rail.changeable (is_coupled board.graph r) (spread_at board r) rail low high
      (sym (over_spread_at board r rail here) ∙ rail_fails board (is_over_spread board) r rail graph no_spread here) changeable (coupled_is board.graph r of.other of.coupled) next in
      omega (arith, near, spread_is board r spread of);
}

-- what the tests find
pub over_spread : (board : Board) (r : ℕ) (rail : Rail) → slice_get board.rails r ≡ Some rail → is_over_spread board r ≡ true
    → HasWideGap board r (gap_at board r) (spread_at board r) × (is_coupled board.graph r ≡ true)
over_spread board r rail here is =
    let parts = and_parts (rail.changeable && is_coupled board.graph r) (ltb (spread_at board r) (widest_gap (allowed rail))) (sym (over_spread_at board r rail here) ∙ is) in
    let both = and_parts rail.changeable (is_coupled board.graph r) parts.0 in
    let gap : widest_gap (allowed rail) ≡ gap_at board r = ap (λ o. option_map_or (λ (x : Rail). widest_gap (allowed x)) o 0) (sym here) in (
      record {
        rail = rail;
        is_at = here;
        changeable = both.0;
        widest = subst (IsWidestGap (allowed rail)) gap (widest_gap_is_lem (allowed rail));
        above = subst (λ n. spread_at board r < n) gap (ltb-true (spread_at board r) (widest_gap (allowed rail)) parts.1);
      },
      both.1,
    )

pub over_step : (board : Board) (r : ℕ) (rail : Rail) → slice_get board.rails r ≡ Some rail → is_over_step board r ≡ true
    → HasWideGap board r (gap_at board r) (step_at board r) × (rail.limits.max_step ≢ 0)
over_step board r rail here is =
    let parts = and_parts (rail.changeable && not (eqb rail.limits.max_step 0)) (ltb rail.limits.max_step (widest_gap (allowed rail))) (sym (over_step_at board r rail here) ∙ is) in
    let both = and_parts rail.changeable (not (eqb rail.limits.max_step 0)) parts.0 in
    let gap : widest_gap (allowed rail) ≡ gap_at board r = ap (λ o. option_map_or (λ (x : Rail). widest_gap (allowed x)) o 0) (sym here) in
    let step : rail.limits.max_step ≡ step_at board r = ap (λ o. option_map_or (λ (x : Rail). x.limits.max_step) o 0) (sym here) in
    let wide : rail.limits.max_step < widest_gap (allowed rail) = ltb-true rail.limits.max_step (widest_gap (allowed rail)) parts.1 in (
      record {
        rail = rail;
        is_at = here;
        changeable = both.0;
        widest = subst (IsWidestGap (allowed rail)) gap (widest_gap_is_lem (allowed rail));
        above = omega (arith, gap, step, wide);
      },
      eqb-false rail.limits.max_step 0 (not-true (eqb rail.limits.max_step 0) both.1),
    )

rail_there : (test : Rail → Bool) (board : Board) (r : ℕ) → tests_rail test board r ≡ true → (rail : Rail) × (slice_get board.rails r ≡ Some rail)
rail_there test board r is = by (slice_get board.rails r) is where
  by : (o : Option Rail) → option_map_or test o false ≡ true → (rail : Rail) × (o ≡ Some rail)
  by None fails = absurd (cc)
  by (Some rail) passes = (rail, refl)

over_spread_rail : (board : Board) (r : ℕ) → is_over_spread board r ≡ true → (rail : Rail) × (slice_get board.rails r ≡ Some rail)
over_spread_rail board r is =
    let parts = and_parts (tests_rail (λ rail. rail.changeable) board r && is_coupled board.graph r) (ltb (spread_at board r) (gap_at board r)) is in
    rail_there (λ rail. rail.changeable) board r (and_parts (tests_rail (λ rail. rail.changeable) board r) (is_coupled board.graph r) parts.0).0

over_step_rail : (board : Board) (r : ℕ) → is_over_step board r ≡ true → (rail : Rail) × (slice_get board.rails r ≡ Some rail)
over_step_rail board r is =
    let parts = and_parts (tests_rail (λ rail. rail.changeable) board r && not (eqb (step_at board r) 0)) (ltb (step_at board r) (gap_at board r)) is in
    rail_there (λ rail. rail.changeable) board r (and_parts (tests_rail (λ rail. rail.changeable) board r) (not (eqb (step_at board r) 0)) parts.0).0

-- narrow gaps are above no bound
not_above : (board : Board) (r gap bound : ℕ) → HasWideGap board r gap bound
    → ((rail : Rail) → slice_get board.rails r ≡ Some rail → rail.changeable ≡ true → (low high : ℕ) → AreNeighbours (allowed rail) low high → high ≤ low + bound) → ⊥
not_above board r gap bound wide narrow =
    let far : HasGap (allowed wide.rail) gap = wide.widest.reached (λ none. absurd (omega (arith, wide.above))) in
    absurd (omega (arith, wide.above, narrow wide.rail wide.is_at wide.changeable far.low (far.low + gap) far.neighbours))

within_spread : (board : Board) (r : ℕ) → IsGraphOf board → HaveSpreads board → AreNarrow board → is_over_spread board r ≡ true → ⊥
within_spread board r graph spreads narrow is =
    let there = over_spread_rail board r is in
    let found = over_spread board r there.0 there.1 is in
    not_above board r (gap_at board r) (spread_at board r) found.0
    (λ rail here changeable low high next.
    (narrow r rail here changeable).spreads (spread_at board r) (spread_from board r rail graph spreads here found.1) low high next)

same_rail : (board : Board) (r : ℕ) (first second : Rail) → slice_get board.rails r ≡ Some first → slice_get board.rails r ≡ Some second → first.limits.max_step ≡ second.limits.max_step
same_rail board r first second one other = let same : first ≡ second = cc in ap (λ (x : Rail). x.limits.max_step) same

within_step : (board : Board) (r : ℕ) → AreNarrow board → is_over_step board r ≡ true → ⊥
within_step board r narrow is =
    let there = over_step_rail board r is in
    let found = over_step board r there.0 there.1 is in
    not_above board r (gap_at board r) (step_at board r) found.0
    (λ rail here changeable low high next.
    let step : rail.limits.max_step ≡ step_at board r = ap (λ o. option_map_or (λ (x : Rail). x.limits.max_step) o 0) (sym here) in
    omega (arith, step, (narrow r rail here changeable).steps (λ zero. found.1 (same_rail board r there.0 rail there.1 here ∙ zero)) low high next))

pub no_gap_fault : (board : Board) → IsGraphOf board → HaveSpreads board → gap_fault board ≡ None ↔ AreNarrow board
no_gap_fault board graph spreads = (narrow, none) where
  narrow : gap_fault board ≡ None → AreNarrow board
  narrow is = both (find (is_over_spread board) (rails_of board.graph)) refl is where
    both : (o : Option ℕ) → find (is_over_spread board) (rails_of board.graph) ≡ o
        → option_or (option_map (λ r. GapOverSpread r (gap_at board r) (spread_at board r)) o) (step_fault board) ≡ None → AreNarrow board
    both None first second = gaps_narrow board graph first (map_none (λ r. GapOverStep r (gap_at board r) (step_at board r)) (find (is_over_step board) (rails_of board.graph)) second)
    both (Some r) first second = absurd (cc)

  none : AreNarrow board → gap_fault board ≡ None
  none narrow =
      let no_spread = none_passes (is_over_spread board) 0 (count_of board.graph) (λ r _ _. false_from_ne_true (is_over_spread board r) (within_spread board r graph spreads narrow)) in
      let no_step = none_passes (is_over_step board) 0 (count_of board.graph) (λ r _ _. false_from_ne_true (is_over_step board r) (within_step board r narrow)) in
      ap (λ o. option_or (option_map (λ r. GapOverSpread r (gap_at board r) (spread_at board r)) o) (step_fault board)) no_spread
      ∙ ap (λ o. option_map (λ r. GapOverStep r (gap_at board r) (step_at board r)) o) no_step

-- a fault by the rail that was found
abbrev told : Board → Option ℕ → Option ℕ → Option CheckFault
told board o p =
    option_or (option_map (λ r. GapOverSpread r (gap_at board r) (spread_at board r)) o) (option_map (λ r. GapOverStep r (gap_at board r) (step_at board r)) p)

spread_told : (board : Board) (o p : Option ℕ) (r gap spread : ℕ) → told board o p ≡ Some (GapOverSpread r gap spread)
    → (o ≡ Some r) × (gap_at board r ≡ gap) × (spread_at board r ≡ spread)
spread_told board (Some k) p r gap spread is =
    let same : k ≡ r = cc in
    let wide : gap_at board k ≡ gap = cc in
    let bound : spread_at board k ≡ spread = cc in
    (ap Some same, ap (gap_at board) (sym same) ∙ wide, ap (spread_at board) (sym same) ∙ bound)
spread_told board None (Some k) r gap spread is = absurd (cc)
spread_told board None None r gap spread is = absurd (cc)

step_told : (board : Board) (o p : Option ℕ) (r gap step : ℕ) → told board o p ≡ Some (GapOverStep r gap step)
    → (o ≡ None) × (p ≡ Some r) × (gap_at board r ≡ gap) × (step_at board r ≡ step)
step_told board (Some k) p r gap step is = absurd (cc)
step_told board None (Some k) r gap step is =
    let same : k ≡ r = cc in
    let wide : gap_at board k ≡ gap = cc in
    let bound : step_at board k ≡ step = cc in
    (refl, ap Some same, ap (gap_at board) (sym same) ∙ wide, ap (step_at board) (sym same) ∙ bound)
step_told board None None r gap step is = absurd (cc)

wide_as : (board : Board) (r gap bound other limit : ℕ) → HasWideGap board r gap bound → gap ≡ other → bound ≡ limit → HasWideGap board r other limit
wide_as board r gap bound other limit wide gaps bounds =
    subst (λ n. HasWideGap board r other n) bounds (subst (λ n. HasWideGap board r n bound) gaps wide)

pub real_over_spread : (board : Board) (r gap spread : ℕ) → IsGraphOf board → HaveSpreads board → gap_fault board ≡ Some (GapOverSpread r gap spread)
    → HasWideGap board r gap spread × IsSpreadOf board r spread
real_over_spread board r gap spread graph spreads is =
    let parts = spread_told board (find (is_over_spread board) (rails_of board.graph)) (find (is_over_step board) (rails_of board.graph)) r gap spread is in
    let first = is_first (is_over_spread board) 0 (count_of board.graph) r parts.0 in
    let there = over_spread_rail board r first.passes in
    let found = over_spread board r there.0 there.1 first.passes in (
      wide_as board r (gap_at board r) (spread_at board r) gap spread found.0 parts.1 parts.2,
      subst (IsSpreadOf board r) parts.2 (spread_from board r there.0 graph spreads there.1 found.1),
    )

pub real_over_step : (board : Board) (r gap step : ℕ) → gap_fault board ≡ Some (GapOverStep r gap step)
    → HasWideGap board r gap step × (step_at board r ≡ step) × (step ≢ 0) × (spread_fault board ≡ None)
real_over_step board r gap step is =
    let parts = step_told board (find (is_over_spread board) (rails_of board.graph)) (find (is_over_step board) (rails_of board.graph)) r gap step is in
    let first = is_first (is_over_step board) 0 (count_of board.graph) r parts.1 in
    let there = over_step_rail board r first.passes in
    let found = over_step board r there.0 there.1 first.passes in
    let asked : there.0.limits.max_step ≡ step_at board r = ap (λ o. option_map_or (λ (x : Rail). x.limits.max_step) o 0) (sym there.1) in (
      wide_as board r (gap_at board r) (step_at board r) gap step found.0 parts.2 parts.3,
      parts.3,
      (λ zero. found.1 (asked ∙ parts.3 ∙ zero)),
      ap (option_map (λ r. GapOverSpread r (gap_at board r) (spread_at board r))) parts.0,
    )
