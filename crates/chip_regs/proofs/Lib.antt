pub mod Masks
pub mod Image
pub mod Fields
pub mod Clashes
mod Worked
