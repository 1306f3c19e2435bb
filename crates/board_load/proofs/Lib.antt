mod DemoFacts
mod LoneUntied
mod NewBytes
mod TakenWrites
mod DraftValues
mod WorkedDemo
mod WorkedRegisters
mod WorkedStart
mod WorkedWrites
mod WorkedBringUp
pub mod Walks
pub mod StartValues
pub mod TableSelectors
pub mod AimedMoves
pub mod LoadingAims
pub mod StartsOn
pub mod LoadedBoard
pub mod LoadedRails
pub mod LoadedInv
pub mod PutLemmas
pub mod TargetLemmas
pub mod PickLemmas
pub mod MarkLemmas
pub mod FinishLemmas
