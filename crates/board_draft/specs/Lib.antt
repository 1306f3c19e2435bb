pub mod Fault
pub mod Links
pub mod Sketch
pub mod Faults
pub mod Text
pub mod Inside
