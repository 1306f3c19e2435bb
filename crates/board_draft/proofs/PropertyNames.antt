-- The names of properties are texts.
use Rattle.std.specs.Str.{IsUtf8}
use lib.Utf8.{encode}
use Rattle.std.proofs.Common.{refl}
use Rattle.constraints.specs.declared.prop.Prop.{Prop}
use Rattle.constraints.specs.declared.prop.Prop.TheVariants.{Name, MinMicrovolt, MaxMicrovolt, SystemLoad, RampDelay, EnableRampDelay, SettlingTime, SettlingTimeUp, SettlingTimeDown, MaxStep, AllowedModes, InitialMode, CoupledWith, MaxSpread, SuspendMicrovolt, Supply}
use Rattle.constraints.specs.Prop.{name_of}

-- the name of a property is a text
pub IsUtf8-name : (prop : Prop) → IsUtf8 (name_of prop)
unfolding encode
IsUtf8-name Name = (name_of Name, (refl, refl))
IsUtf8-name MinMicrovolt = (name_of MinMicrovolt, (refl, refl))
IsUtf8-name MaxMicrovolt = (name_of MaxMicrovolt, (refl, refl))
IsUtf8-name SystemLoad = (name_of SystemLoad, (refl, refl))
IsUtf8-name RampDelay = (name_of RampDelay, (refl, refl))
IsUtf8-name EnableRampDelay = (name_of EnableRampDelay, (refl, refl))
IsUtf8-name SettlingTime = (name_of SettlingTime, (refl, refl))
IsUtf8-name SettlingTimeUp = (name_of SettlingTimeUp, (refl, refl))
IsUtf8-name SettlingTimeDown = (name_of SettlingTimeDown, (refl, refl))
IsUtf8-name MaxStep = (name_of MaxStep, (refl, refl))
IsUtf8-name AllowedModes = (name_of AllowedModes, (refl, refl))
IsUtf8-name InitialMode = (name_of InitialMode, (refl, refl))
IsUtf8-name CoupledWith = (name_of CoupledWith, (refl, refl))
IsUtf8-name MaxSpread = (name_of MaxSpread, (refl, refl))
IsUtf8-name SuspendMicrovolt = (name_of SuspendMicrovolt, (refl, refl))
IsUtf8-name Supply = (name_of Supply, (refl, refl))
