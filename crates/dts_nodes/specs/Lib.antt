pub mod Firsts
pub mod Forms
pub mod Use
