pub mod Sight
pub mod Foreign
pub mod Taking
pub mod Exact
pub mod Inside
