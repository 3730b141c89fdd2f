-- How a tape is seen that tells nothing.
pub mod Untold
