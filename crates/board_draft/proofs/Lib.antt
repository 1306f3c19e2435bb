mod Walks
mod RailFaults
mod CoupleLemmas
mod GraphLemmas
mod BuildLemmas
mod PartsLists
mod PartsLoops
mod PropertyNames
mod DraftLemmas
pub mod SoundGraph
pub mod SoundLists
pub mod SoundTrimmed
pub mod SoundRail
pub mod SoundNames
pub mod SoundGroups
pub mod SoundBoard
pub mod SoundChecks
pub mod WorkedTexts
mod WorkedDrafts
