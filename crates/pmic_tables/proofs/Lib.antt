pub mod SoundLine
pub mod Chips
pub mod Made
pub mod WorkedRules
pub mod WorkedChips
pub mod WorkedDescriptions
