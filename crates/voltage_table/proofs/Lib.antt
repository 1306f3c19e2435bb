pub mod Picks
pub mod Listed
mod Worked
