-- lines, and what it is to write a text
pub mod Line
pub mod Writing
-- what the proofs alone need: texts behind separators, texts that are formed part by part, and rows that are short
pub mod Joined
pub mod Forming
pub mod Short
