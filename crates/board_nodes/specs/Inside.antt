-- What serves the contracts inside the crate, and nobody has to believe.
pub mod Drafts
pub mod Faults
pub mod Outline
pub mod Sheets
pub mod Siblings
pub mod Survey
