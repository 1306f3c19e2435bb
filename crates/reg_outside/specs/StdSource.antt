use Rattle.std.specs.Prelude.{ℕ}

-- the reader, and how many reads failed
pub record StdSourceState (R : Type 0) : Type 0 where
  pub reader : R
  pub faults : ℕ
