pub mod Registers
pub mod WorkedTies
pub mod WorkedBoardTies
pub mod WorkedLeast
pub mod WorkedWays
pub mod WorkedAdmissible
pub mod WorkedLaws
pub mod Admissible
pub mod LeastValues
pub mod Members
pub mod LawByTies
pub mod NextStep
pub mod WayArrives
pub mod Updates
pub mod Judged
mod WorkedUpdates
