-- a quotient that is rounded up is the least factor that covers the dividend
use Rattle.std.proofs.Common.{ℕ, ◌+◌, ◌*◌, ◌<◌, ◌≤◌, arith, inl, inr}
use Rattle.std.specs.Int.{div_ceil}
use Rattle.std.proofs.lemmas.Nat.{mul-le}
use Rattle.std.proofs.lemmas.Bool.{cases_lt}
use Rattle.std.proofs.lemmas.Grind.{div_ceil_times}
use Rattle.ramp_delay.specs.Times.{IsLeastTime}

least-factor : (distance ramp t s : ℕ) → t * ramp < distance + ramp → distance ≤ s * ramp → t ≤ s
least-factor distance ramp t s close covers =
    elim (cases_lt s t) [
      | inr above ↦ above
      | inl below ↦ absurd (omega (arith, mul-le (s + 1) ramp t ramp (omega arith) (omega arith)))
    ]

pub div_ceil-IsLeastTime : (distance ramp : ℕ) → 0 < ramp → IsLeastTime distance ramp (div_ceil distance ramp)
div_ceil-IsLeastTime distance ramp some =
    let times = div_ceil_times distance ramp some in
    record {
      covers = times.0;
      least = λ s covers. least-factor distance ramp (div_ceil distance ramp) s times.1 covers;
    }
