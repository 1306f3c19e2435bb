pub mod Rails
pub mod Gaps
pub mod GapFault
pub mod Asleep
pub mod Loads
pub mod Checks
