-- All that a wire tells.
use Rattle.std.specs.Prelude.{ℕ, List, Option}
use Rattle.std.specs.Option.{option_map}
use Rattle.reg_outside.specs.Count.{raised}
use Rattle.reg_outside.specs.Plan.{Plan}

-- updates as a wire tells them: of each the chip, the register, the mask and the bits
abbrev pub Updates : Type 0
Updates = List (ℕ × ℕ × ℕ × ℕ)

-- what a wire tells: the updates that it took, the plan of those that it refuses, and how often it refused one
pub record Bus : Type 0 where
  pub taken : Option Updates
  pub plan : Option Plan
  pub faults : ℕ

-- what a wire tells, by what its kind has for each
abbrev pub told_by : {W : Type 0} → (W → Option Updates) → (W → Option Plan) → (W → ℕ) → W → Bus
told_by taken plan faults wire = record { taken = taken wire; plan = plan wire; faults = faults wire }

-- a told plan once so many more updates were tried
abbrev pub tried_more : ℕ → Option Plan → Option Plan
tried_more count told = option_map (λ (plan : Plan). record plan { tried = raised plan.tried count }) told
