pub mod Build
pub mod Couples
pub mod Graph
pub mod Nodes
pub mod Pairs
pub mod Turns
