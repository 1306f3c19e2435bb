-- The values that a rail takes on its way from one of its values to another: up or down, each the neighbour of the one before.
use Rattle.std.proofs.Common.{◌≡◌, ℕ, zero, suc, ◌≤◌, ◌<◌, Bool, false, ltb, List, [], ◌⊎◌, inl, inr, refl, ap, ◌∙◌, arith, length, All, Contains}
use Rattle.std.specs.Prelude.{if◌then◌else◌}
use Rattle.std.proofs.lemmas.Bool.{cases_lt, ltb-true, ltb-false, lt-ltb, le-ltb, cond-true, cond-false}
use Rattle.std.proofs.lemmas.List.Elements.{All-weaker}
use Rattle.std.proofs.lemmas.List.Sums.{count_by-le-length}
use Rattle.plain_board.proofs.Run.{upward, downward, run, end_of, run_all, end_is, IsOnWay}

-- the one of two is above the other
abbrev pub above : ℕ → ℕ → Bool
above a b = ltb b a

abbrev pub run_to : (ℕ → ℕ → Bool) → List ℕ → ℕ → ℕ → List ℕ
run_to before values goal u = run before values goal (length values) u

-- the values from one to a goal, without the first
abbrev pub values_to : List ℕ → ℕ → ℕ → List ℕ
values_to values goal u = if ltb u goal then run_to ltb values goal u else run_to above values goal u

-- a number from the one to the other, upward or downward
abbrev pub IsBetween : ℕ → ℕ → ℕ → Type 0
IsBetween u goal v = ((u ≤ v) × (v ≤ goal)) ⊎ ((goal ≤ v) × (v ≤ u))

-- where nothing is left to do a run is over
pub run_idle : (before : ℕ → ℕ → Bool) (values : List ℕ) (goal most u : ℕ) → before u goal ≡ false → run before values goal most u ≡ []
run_idle before values goal zero u there = refl
run_idle before values goal (suc most) u there = cond-false (before u goal) _ [] there

module _ (values : List ℕ) (goal : ℕ) where
  pub values_to-rising : (u : ℕ) → u < goal → values_to values goal u ≡ run_to ltb values goal u
  values_to-rising u less = cond-true (ltb u goal) _ (run_to above values goal u) (lt-ltb u goal less)

  pub values_to-falling : (u : ℕ) → goal ≤ u → values_to values goal u ≡ run_to above values goal u
  values_to-falling u most = cond-false (ltb u goal) (run_to ltb values goal u) _ (le-ltb u goal most)

  -- nothing stands between a value and itself
  pub values_to-same : values_to values goal goal ≡ []
  values_to-same = values_to-falling goal (omega arith) ∙ run_idle above values goal (length values) goal (le-ltb goal goal (omega arith))

  module _ (has : Contains values goal) where
    -- they end at the goal
    pub end_of-values_to : (u : ℕ) → end_of u (values_to values goal u) ≡ goal
    end_of-values_to u = elim (cases_lt u goal) [
      | inl less ↦ ap (end_of u) (values_to-rising u less)
          ∙ end_is ltb upward values goal has (length values) u (le-ltb goal u (omega arith)) (count_by-le-length (ltb u) values)
      | inr most ↦ ap (end_of u) (values_to-falling u most)
          ∙ end_is above downward values goal has (length values) u (le-ltb u goal most) (count_by-le-length (above u) values)
    ]

    -- each is one of the values, and stands between
    pub record IsStop (u v : ℕ) : Type 0 where
      pub among : Contains values v
      pub between : IsBetween u goal v

    pub values_to-stops : (u : ℕ) → All (IsStop u) (values_to values goal u)
    values_to-stops u = elim (cases_lt u goal) [
      | inl less ↦ rw (values_to-rising u less)
          (All-weaker (IsOnWay ltb upward values goal has u) (IsStop u)
          (λ v on. record { among = on.among; between = inl (omega (arith, ltb-true u v on.behind), ltb-false goal v on.not_past) })
          (run_to ltb values goal u) (run_all ltb upward values goal has (length values) u))
      | inr most ↦ rw (values_to-falling u most)
          (All-weaker (IsOnWay above downward values goal has u) (IsStop u)
          (λ v on. record { among = on.among; between = inr (ltb-false v goal on.not_past, omega (arith, ltb-true v u on.behind)) })
          (run_to above values goal u) (run_all above downward values goal has (length values) u))
    ]
