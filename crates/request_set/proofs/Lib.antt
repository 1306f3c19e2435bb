pub mod Bounds
pub mod Places
pub mod Once
mod WorkedRequests
