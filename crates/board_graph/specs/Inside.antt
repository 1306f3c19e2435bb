-- What serves the contracts inside the crate, and nobody has to believe.
pub mod Net
pub mod Walk
pub mod Lists
pub mod Blocks
pub mod Turns
pub mod Above
