use Rattle.std.specs.Prelude.{ℕ}

-- the writer, and how many writes failed
pub record StdSinkState (W : Type 0) : Type 0 where
  pub writer : W
  pub faults : ℕ
