pub mod Chosen
pub mod FileTapeView
pub mod Kept
pub mod Written
