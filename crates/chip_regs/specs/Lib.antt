pub mod Width
pub mod Field
pub mod Registers
pub mod Clash
pub mod Laws
