pub mod CountFacts
pub mod Plans
pub mod ToldFacts
mod WorkedCounts
mod WorkedPlans
