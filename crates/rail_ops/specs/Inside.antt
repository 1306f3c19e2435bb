-- What serves the contracts inside the crate, and nobody has to believe.
pub mod Seen
pub mod Raised
pub mod Supplied
pub mod Rising
pub mod Falling
pub mod Alone
pub mod AloneLaws
pub mod Enabling
pub mod Opening
pub mod Disabling
pub mod Releasing
pub mod Walking
pub mod Setting
