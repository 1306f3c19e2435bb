use Rattle.std.specs.Prelude.{ℕ, ◌*◌, ◌≤◌, ◌==◌, nat_lt, if◌then◌else◌}
use Rattle.std.specs.Int.{abs_diff, div_ceil}
use Rattle.ramp_delay.specs.declared.times.Times.{Times}

-- a setting, or what stands in its place where it is 0 and so not given
abbrev pub given_or : ℕ → ℕ → ℕ
given_or setting other = if setting == 0 then other else setting

-- the ramp that counts: the constraints' one, else the description's
abbrev pub ramp_of : Times → ℕ → ℕ
ramp_of times desc_ramp = given_or times.ramp desc_ramp

-- how long a change takes where no ramp is known
abbrev pub settling_of : Times → ℕ → ℕ → ℕ
settling_of times a b = given_or times.settle (if nat_lt a b then times.up else times.down)

-- how long a change from a to b takes.
-- From 800000 to 906250 µV at 12500 µV a µs: 106250 / 12500 is 8.5, so 9 µs
unfoldable pub time_of : Times → ℕ → ℕ → ℕ → ℕ
time_of times desc_ramp a b =
    let ramp = ramp_of times desc_ramp in
    if a == b then 0 else (if ramp == 0 then settling_of times a b else div_ceil (abs_diff a b) ramp)

-- t is the least time in which the ramp covers the distance
pub record IsLeastTime (distance ramp t : ℕ) : Type 0 where
  pub covers : distance ≤ t * ramp
  pub least : (s : ℕ) → distance ≤ s * ramp → t ≤ s
