use Rattle.std.specs.Prelude.{ℕ, List}
use Rattle.reg_outside.specs.Plan.{Plan}

-- the bytes that are left, which reads fail, and how many failed
pub record SourceState : Type 0 where
  pub left : List ℕ
  pub reads : Plan
  pub faults : ℕ
