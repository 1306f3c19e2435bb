pub mod Inside
pub mod NameEntries
