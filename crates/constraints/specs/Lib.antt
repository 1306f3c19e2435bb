pub mod Prop
pub mod Bounds
pub mod ModeCells
pub mod Coupling
pub mod Sleeps
pub mod StateNodes
pub mod Faults
pub mod Node
