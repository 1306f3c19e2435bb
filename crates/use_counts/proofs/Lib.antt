pub mod Names
pub mod Sums
mod WorkedCounts
