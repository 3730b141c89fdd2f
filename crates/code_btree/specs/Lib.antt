-- Read in this order. What the bytes of a page mean.
pub mod Bytes
pub mod Node
-- The finite map, the tree over pages, and what each call does.
pub mod Items
pub mod Tree
pub mod Calls
pub mod Run
-- What only the proof needs.
pub mod Search
pub mod Steps
pub mod Removals
pub mod Chain
pub mod Between
pub mod Near
