-- What serves the contracts inside the crate, and nobody has to believe.
pub mod Targets
pub mod Puts
