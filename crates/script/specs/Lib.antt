pub mod RailNames
pub mod CallLines
