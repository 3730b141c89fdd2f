-- Read in this order. The catalog and the state of a store.
pub mod Catalog
-- What is known of relations without a page.
pub mod Sketches
-- The database for which they stand over pages.
pub mod Tuples
pub mod Contents
-- What holds of every store.
pub mod Ownership
pub mod Standing
-- What a relation tells of its columns.
pub mod Paths
-- What the calls do, and why they are refused.
pub mod Calls
-- What only the proof needs.
pub mod Steps
pub mod Loads
pub mod Building
pub mod Leaving
pub mod Trees
pub mod Treeing
pub mod TableLaws
