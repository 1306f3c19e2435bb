-- What serves the contracts inside the crate, and nobody has to believe.
pub mod Kept
pub mod Keys
pub mod Listed
pub mod Shelved
pub mod States
