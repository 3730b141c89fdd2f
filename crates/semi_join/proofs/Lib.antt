pub mod Bits
pub mod Rows
pub mod Remaining
pub mod Waiting
pub mod Turns
pub mod Lists
