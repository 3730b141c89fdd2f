-- the tree that rows make, told by blocks
pub mod Bulk
-- the rows, and what a build does
pub mod Members
pub mod Calls
-- what only proofs need
pub mod Parts
