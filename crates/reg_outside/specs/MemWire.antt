use Rattle.std.specs.Prelude.{ℕ, ◌+◌, ◌≤◌, List, [], length}
use Rattle.reg_outside.specs.Plan.{Plan, plan_of, RefusesNoneOfNext}

-- the updates that were taken, how many there may be, which are refused, and how many were refused
pub record WireState : Type 0 where
  pub accepted : List (ℕ × ℕ × ℕ × ℕ)
  pub room : ℕ
  pub updates : Plan
  pub faults : ℕ

-- a wire that has seen no update
abbrev pub new_wire : ℕ → List ℕ → WireState
new_wire room refused = record { accepted = []; room = room; updates = plan_of refused; faults = 0 }

-- none of the next so many updates is planned to be refused, and there is room for them
abbrev pub AcceptsNext : WireState → ℕ → Type 0
AcceptsNext wire updates = RefusesNoneOfNext wire.updates updates × (length wire.accepted + updates ≤ wire.room)
