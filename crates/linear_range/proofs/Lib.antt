pub mod Faults
pub mod Picks
pub mod Tables
pub mod Singles
pub mod Steps
pub mod Counts
pub mod Listed
mod Worked
