use Rattle.std.specs.Prelude.{◌≡◌, ℕ}
use Rattle.reg_outside.specs.Count.{raised}
use Rattle.reg_outside.specs.Plan.{Plan, RefusedNone, RefusesNoneOfNext, refused_of}

-- the wire inside, and which updates it never sees
pub record PlannedState (W : Type 0) : Type 0 where
  pub inner : W
  pub plan : Plan

-- the faults of the wire inside and, beside them, the tried updates whose number is planned
abbrev pub count_of : {W : Type 0} → (W → ℕ) → PlannedState W → ℕ
count_of faults planned = raised (faults planned.inner) (refused_of planned.plan)

-- none of the next so many updates is planned, and the wire inside accepts them
abbrev pub PassesNext : {W : Type 0} → (W → ℕ → Type 0) → PlannedState W → ℕ → Type 0
PassesNext accepts_next planned updates = RefusesNoneOfNext planned.plan updates × accepts_next planned.inner updates

-- where no planned number was tried, the faults are those of the wire inside
abbrev pub CountIsInner : {W : Type 0} → (W → ℕ) → Type 0
CountIsInner {W} faults = (planned : PlannedState W) → RefusedNone planned.plan → count_of faults planned ≡ faults planned.inner
