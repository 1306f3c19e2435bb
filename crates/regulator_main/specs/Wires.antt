-- What a lab counts and tells, by the numbers of its wires: 0 is that of the load, and each worker has its own.
use Rattle.std.specs.Prelude.{ℕ, ◌≡◌, ◌≢◌, Option}
use Rattle.reg_outside.specs.Bus.{Updates}

pub record Wires : Type 0 where
  -- how many faults of a wire were counted
  pub counts : ℕ → ℕ
  -- the updates that it took
  pub lists : ℕ → Option Updates

-- those of a lab, by what its kind has for each
abbrev pub wires_of : (ℕ → ℕ) → (ℕ → Option Updates) → Wires
wires_of counts lists = record { counts = counts; lists = lists }

-- of all numbers but one all is as it was
pub record OthersStay (number : ℕ) (before after : Wires) : Type 0 where
  pub counts : (n : ℕ) → n ≢ number → after.counts n ≡ before.counts n
  pub lists : (n : ℕ) → n ≢ number → after.lists n ≡ before.lists n
