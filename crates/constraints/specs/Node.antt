-- The constraints that a rail's node gives.
use Rattle.std.specs.Prelude.{ℕ, List, codes}
use Rattle.ramp_delay.specs.declared.times.Times.{Times}
use Rattle.board.specs.declared.constraints.Constraints.{Constraints}
use Rattle.board.specs.declared.desc.Desc.{Desc}
use Rattle.dts_tree.specs.Tree.{Node}
use Rattle.constraints.specs.declared.prop.Prop.TheVariants.{SystemLoad, RampDelay, EnableRampDelay, SettlingTime, SettlingTimeUp, SettlingTimeDown, MaxStep}
use Rattle.constraints.specs.Bounds.{number_or_zero, bounds_at}
use Rattle.constraints.specs.ModeCells.{allowed_modes, initial_mode}
use Rattle.constraints.specs.Sleeps.{has, sleeps_at}

-- how long changes of the rail's voltage take
abbrev pub times_at : List Node → ℕ → Times
times_at nodes node = record {
  ramp = number_or_zero nodes node RampDelay;
  settle = number_or_zero nodes node SettlingTime;
  up = number_or_zero nodes node SettlingTimeUp;
  down = number_or_zero nodes node SettlingTimeDown;
}

-- all that is asked of the rail
abbrev pub constraints_at : List Node → ℕ → Desc → Constraints
constraints_at nodes node desc = record {
  bounds = bounds_at nodes node;
  always_on = has nodes node (codes "regulator-always-on");
  boot_on = has nodes node (codes "regulator-boot-on");
  allow_load = has nodes node (codes "regulator-allow-set-load");
  system_load = number_or_zero nodes node SystemLoad;
  times = times_at nodes node;
  enable_ramp = number_or_zero nodes node EnableRampDelay;
  allowed = allowed_modes nodes node desc;
  initial = initial_mode nodes node desc;
  max_step = number_or_zero nodes node MaxStep;
  sleeps = sleeps_at nodes node;
}
