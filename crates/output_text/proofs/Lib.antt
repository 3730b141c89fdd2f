pub mod Decimals
pub mod Forming
pub mod Gaps
pub mod Lines
pub mod Listed
pub mod Parts
pub mod WrittenPrefix
