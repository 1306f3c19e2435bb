pub mod Ceil
mod Worked
