pub mod Read
pub mod Progress
pub mod Frames
pub mod Loaded
