-- Read in this order. The key of a value, and entries in order.
pub mod Key
pub mod Entries
-- The index over pages, and what each call does.
pub mod Index
pub mod Calls
-- What only the proof needs.
pub mod Steps
