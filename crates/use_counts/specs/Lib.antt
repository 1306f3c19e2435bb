pub mod Counts
pub mod Book
pub mod Uses
pub mod Inside
