pub mod Table
pub mod Desc
pub mod Rail
pub mod Fields
pub mod Gaps
pub mod Valid
pub mod Lone
