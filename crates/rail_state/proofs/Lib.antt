pub mod Members
pub mod Handles
mod WorkedRequests
mod WorkedSight
