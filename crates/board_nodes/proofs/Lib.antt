pub mod RangeLemmas
pub mod SiblingLemmas
pub mod WalkLemmas
pub mod ChipLemmas
pub mod NameLemmas
pub mod RailLemmas
pub mod FaultLemmas
pub mod WorkedTree
mod WorkedRails
mod WorkedUnused
mod WorkedNames
mod WorkedFaults
pub mod ListFacts
pub mod ApartLemmas
pub mod SoundLemmas
mod WorkedSound
