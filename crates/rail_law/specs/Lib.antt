pub mod Ties
pub mod BoardTies
pub mod Law
pub mod Least
pub mod Moves
pub mod Way
pub mod Inside
