pub mod Chips
pub mod Rails
pub mod Faults
pub mod Sound
pub mod Inside
