pub mod Least
pub mod Falling
