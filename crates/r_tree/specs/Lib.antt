-- Read in this order. What an entry keeps, and the bytes of a node.
pub mod Entry
pub mod Page
-- The tree over pages, and what each call does.
pub mod Tree
pub mod Ways
pub mod Calls
pub mod Nodes
-- What only the proof needs.
pub mod Steps
-- The rows that an R-tree lists.
pub mod Listing
