pub mod Registers
pub mod Start
pub mod Writes
pub mod Loading
pub mod Demo
pub mod BringUp
pub mod Laws
pub mod Inside
