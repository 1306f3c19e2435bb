-- The nearest value on a rail's way is the next one, and the way goes on from there.
use Rattle.std.proofs.Common.{◌≡◌, ℕ, zero, suc, ◌+◌, ◌-◌, ◌≤◌, ◌<◌, Bool, true, false, cond, leb, ltb, List, [], ◌∷◌, Option, Some, None, inl, inr, refl, sym, ap, ◌∙◌, arith, length, get_or, All, Contains}
use Rattle.std.specs.Prelude.{count_by, unwrap_or, option_map}
use Rattle.std.proofs.lemmas.Bool.{cases_lt, lt-ltb, le-ltb, ltb-true, ltb-false, leb-true, le-leb, cond-true}
use Rattle.std.proofs.lemmas.List.Elements.{All-contains}
use Rattle.std.proofs.lemmas.List.Sums.{count_by-le-length}
use Rattle.std.specs.Option.{IsSome}
use Rattle.linear_range.specs.declared.pick.Pick.{Pick}
use Rattle.linear_range.specs.Pick.{pair_of}
use Rattle.linear_range.specs.Values.{pick_high, pick_low}
use Rattle.board_graph.proofs.Growth.{from_taken, taken_from}
use Rattle.board.specs.declared.rail.Rail.{Rail}
use Rattle.board.specs.Rail.{allowed, choices}
use Rattle.rail_law.specs.Moves.{selector_for}
use Rattle.rail_law.specs.Way.{next_value}
use Rattle.plain_board.proofs.Run.{IsOrdering, upward, downward, run, run_on, run_enough, next_is, some_next, fewer}
use Rattle.plain_board.proofs.ValuesTo.{above, values_to, run_to, run_idle, values_to-rising, values_to-falling}
use Rattle.rail_ops.proofs.Nearest.{has, lowest, highest, least_pair-is, greatest_pair-is, best_passes, best_among, best_first, best_preferred, best_some}

-- a pick that must be there is there
pub is_there : (o : Option Pick) (q : Option (ℕ × ℕ)) → option_map pair_of o ≡ q → (q ≡ None → ⊥) → IsSome o
is_there None q is there = absurd (there (sym is))
is_there (Some pick) q is there = refl

-- a value behind `from`, of those that are the nearest
pub record IsNearest (before : ℕ → ℕ → Bool) (values : List ℕ) (from v : ℕ) : Type 0 where
  pub among : Contains values v
  pub behind : before from v ≡ true
  pub nearest : (w : ℕ) → Contains values w → before from w ≡ true → before w v ≡ false

module _ (before : ℕ → ℕ → Bool) (order : IsOrdering before) (values : List ℕ) (goal : ℕ) (has_goal : Contains values goal) where
  next_by : (from v : ℕ) (o : Option ℕ) → next_value before values from ≡ o → IsNearest before values from v → o ≡ Some v
  next_by from v None is near = absurd (some_next before order values from v near.among near.behind is)
  next_by from v (Some w) is near =
      let next = next_is before order values from w is in
      ap (λ (n : ℕ). Some n) (order.apart w v (near.nearest w next.among next.behind) (All-contains (λ k. before from k ≡ true → before k w ≡ false) values v next.nearest near.among near.behind))

  -- the nearest value is the next
  next_value-nearest : (from v : ℕ) → IsNearest before values from v → next_value before values from ≡ Some v
  next_value-nearest from v near = next_by from v (next_value before values from) refl near

  run_first : (n from v : ℕ) → before from goal ≡ true → next_value before values from ≡ Some v → run before values goal (suc n) from ≡ v ∷ run before values goal n v
  run_first n from v behind is =
      cond-true (before from goal) (run_on (run before values goal n) (next_value before values from)) [] behind ∙ ap (run_on (run before values goal n)) is

  run_by : (m from v : ℕ) → length values ≡ m → before from goal ≡ true → IsNearest before values from v → run before values goal m from ≡ v ∷ run before values goal (length values) v
  run_by zero from v long behind near = absurd (omega (arith, long, near.among.1))
  run_by (suc n) from v long behind near =
      let few : count_by (before v) values < count_by (before from) values = fewer (before from) (before v) (λ w on. order.goes_on from v w near.behind on) values v near.among near.behind (order.itself v) in
      run_first n from v behind (next_value-nearest from v near)
      ∙ ap (λ vs. v ∷ vs) (run_enough before order values goal has_goal n (length values) v
      (omega (arith, few, long, count_by-le-length (before from) values)) (count_by-le-length (before v) values))

  pub run_to-step : (from v : ℕ) → before from goal ≡ true → IsNearest before values from v → run_to before values goal from ≡ v ∷ run_to before values goal v
  run_to-step from v behind near = run_by (length values) from v refl behind near

module _ (values : List ℕ) (goal : ℕ) where
  rising_still : (v : ℕ) → v ≤ goal → values_to values goal v ≡ run_to ltb values goal v
  rising_still v not_past = elim (cases_lt v goal) [
    | inl less ↦ values_to-rising values goal v less
    | inr most ↦ values_to-falling values goal v most ∙ run_idle above values goal (length values) v (le-ltb goal v not_past) ∙ sym (run_idle ltb values goal (length values) v (le-ltb v goal most))
  ]

  module _ (has_goal : Contains values goal) where
    pub step_up : (from v : ℕ) → from < goal → v ≤ goal → IsNearest ltb values from v → values_to values goal from ≡ v ∷ values_to values goal v
    step_up from v rising not_past near =
        values_to-rising values goal from rising ∙ run_to-step ltb upward values goal has_goal from v (lt-ltb from goal rising) near ∙ ap (λ vs. v ∷ vs) (sym (rising_still v not_past))

    pub step_down : (from v : ℕ) → goal < from → goal ≤ v → IsNearest above values from v → values_to values goal from ≡ v ∷ values_to values goal v
    step_down from v falling not_past near =
        values_to-falling values goal from (omega arith) ∙ run_to-step above downward values goal has_goal from v (lt-ltb goal from falling) near ∙ ap (λ vs. v ∷ vs) (sym (values_to-falling values goal v not_past))

-- the pair is the next on the way
pub record IsNext (rail : Rail) (from goal : ℕ) (p : ℕ × ℕ) : Type 0 where
  pub next : values_to (allowed rail) goal from ≡ p.1 ∷ values_to (allowed rail) goal p.1
  pub first : selector_for rail p.1 ≡ p.0
  pub among : Contains (allowed rail) p.1

above_passes : (from w : ℕ) → ltb from w ≡ true → leb (from + 1) w ≡ true
above_passes from w behind = le-leb (from + 1) w (omega (arith, ltb-true from w behind))

below_passes : (from w : ℕ) → ltb w from ≡ true → leb w (from - 1) ≡ true
below_passes from w behind = le-leb w (from - 1) (omega (arith, ltb-true w from behind))

module _ (rail : Rail) (from goal : ℕ) (among : Contains (allowed rail) goal) where
  target : has goal (allowed rail) ≡ true
  target = taken_from (allowed rail) goal among

  pub some_above : from < goal → pick_high (choices rail) (from + 1) ≡ None → ⊥
  some_above rising none =
      best_some leb lowest (leb (from + 1)) (choices rail) goal target (le-leb (from + 1) goal (omega arith)) (sym (least_pair-is _) ∙ none)

  pub some_below : goal < from → pick_low (choices rail) (from - 1) ≡ None → ⊥
  some_below falling none =
      best_some (λ a b. leb b a) highest (λ v. leb v (from - 1)) (choices rail) goal target (le-leb goal (from - 1) (omega arith)) (sym (greatest_pair-is _) ∙ none)

  module _ (p : ℕ × ℕ) where
    module _ (rising : from < goal) (is : pick_high (choices rail) (from + 1) ≡ Some p) where
      abbrev ok_up : ℕ → Bool
      ok_up = leb (from + 1)

      pub up_nearer : from < p.1
      up_nearer = omega (arith, leb-true (from + 1) p.1 (best_passes leb lowest ok_up (choices rail) p (sym (least_pair-is _) ∙ is)))

      pub up_not_past : p.1 ≤ goal
      up_not_past = leb-true p.1 goal (best_preferred leb lowest ok_up (choices rail) p (sym (least_pair-is _) ∙ is) goal target (le-leb (from + 1) goal (omega arith)))

      up_among : Contains (allowed rail) p.1
      up_among = from_taken (allowed rail) p.1 (best_among leb lowest ok_up (choices rail) p (sym (least_pair-is _) ∙ is))

      pub up_is : IsNext rail from goal p
      up_is = record {
        next = step_up (allowed rail) goal among from p.1 rising up_not_past (record {
          among = up_among;
          behind = lt-ltb from p.1 up_nearer;
          nearest = λ w there behind.
              le-ltb w p.1 (leb-true p.1 w (best_preferred leb lowest ok_up (choices rail) p (sym (least_pair-is _) ∙ is) w (taken_from (allowed rail) w there) (above_passes from w behind)));
        });
        first = ap (λ o. unwrap_or (option_map (λ (pair : ℕ × ℕ). pair.0) o) 0) (best_first leb lowest ok_up (choices rail) p (sym (least_pair-is _) ∙ is));
        among = up_among;
      }

    module _ (falling : goal < from) (is : pick_low (choices rail) (from - 1) ≡ Some p) where
      abbrev keep : ℕ → ℕ → Bool
      keep a b = leb b a

      abbrev ok_down : ℕ → Bool
      ok_down v = leb v (from - 1)

      pub down_nearer : p.1 < from
      down_nearer = omega (arith, falling, leb-true p.1 (from - 1) (best_passes keep highest ok_down (choices rail) p (sym (greatest_pair-is _) ∙ is)))

      pub down_not_past : goal ≤ p.1
      down_not_past = leb-true goal p.1 (best_preferred keep highest ok_down (choices rail) p (sym (greatest_pair-is _) ∙ is) goal target (le-leb goal (from - 1) (omega arith)))

      down_among : Contains (allowed rail) p.1
      down_among = from_taken (allowed rail) p.1 (best_among keep highest ok_down (choices rail) p (sym (greatest_pair-is _) ∙ is))

      pub down_is : IsNext rail from goal p
      down_is = record {
        next = step_down (allowed rail) goal among from p.1 falling down_not_past (record {
          among = down_among;
          behind = lt-ltb p.1 from down_nearer;
          nearest = λ w there behind.
              le-ltb p.1 w (leb-true w p.1 (best_preferred keep highest ok_down (choices rail) p (sym (greatest_pair-is _) ∙ is) w (taken_from (allowed rail) w there) (below_passes from w behind)));
        });
        first = ap (λ o. unwrap_or (option_map (λ (pair : ℕ × ℕ). pair.0) o) 0) (best_first keep highest ok_down (choices rail) p (sym (greatest_pair-is _) ∙ is));
        among = down_among;
      }
