pub mod Ways
pub mod Graph
pub mod Order
pub mod Sets
pub mod Loops
pub mod Inside
