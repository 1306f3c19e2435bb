pub mod Lowest
mod Worked
