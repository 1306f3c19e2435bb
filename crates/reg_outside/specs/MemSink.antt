use Rattle.std.specs.Prelude.{ℕ, ◌+◌, ◌≤◌, List, length}
use Rattle.reg_outside.specs.Plan.{Plan, RefusesNoneOfNext}

-- the bytes that were taken, how many there may be, which writes fail, and how many failed
pub record SinkState : Type 0 where
  pub bytes : List ℕ
  pub room : ℕ
  pub writes : Plan
  pub faults : ℕ

-- none of the next so many writes is planned to fail, and there is room for as many bytes
abbrev pub TakesNext : SinkState → ℕ → Type 0
TakesNext sink bytes = RefusesNoneOfNext sink.writes bytes × (length sink.bytes + bytes ≤ sink.room)
