pub mod Best
pub mod Extremes
mod Worked
