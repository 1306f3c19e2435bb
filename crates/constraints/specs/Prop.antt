-- The names of the properties of a rail's node.
use Rattle.std.specs.Prelude.{ℕ, List, codes}
use Rattle.constraints.specs.declared.prop.Prop.{Prop}
use Rattle.constraints.specs.declared.prop.Prop.TheVariants.{Name, MinMicrovolt, MaxMicrovolt, SystemLoad, RampDelay, EnableRampDelay, SettlingTime, SettlingTimeUp, SettlingTimeDown, MaxStep, AllowedModes, InitialMode, CoupledWith, MaxSpread, SuspendMicrovolt, Supply}

-- the name of a property; of a supply, what stands behind its own word
abbrev pub name_of : Prop → List ℕ
name_of Name = codes "regulator-name"
name_of MinMicrovolt = codes "regulator-min-microvolt"
name_of MaxMicrovolt = codes "regulator-max-microvolt"
name_of SystemLoad = codes "regulator-system-load"
name_of RampDelay = codes "regulator-ramp-delay"
name_of EnableRampDelay = codes "regulator-enable-ramp-delay"
name_of SettlingTime = codes "regulator-settling-time-us"
name_of SettlingTimeUp = codes "regulator-settling-time-up-us"
name_of SettlingTimeDown = codes "regulator-settling-time-down-us"
name_of MaxStep = codes "regulator-max-step-microvolt"
name_of AllowedModes = codes "regulator-allowed-modes"
name_of InitialMode = codes "regulator-initial-mode"
name_of CoupledWith = codes "regulator-coupled-with"
name_of MaxSpread = codes "regulator-coupled-max-spread"
name_of SuspendMicrovolt = codes "regulator-suspend-microvolt"
name_of Supply = codes "-supply"
