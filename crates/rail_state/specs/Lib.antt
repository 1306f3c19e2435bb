pub mod Requests
pub mod Sight
pub mod Inside
