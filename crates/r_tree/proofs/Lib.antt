pub mod Bags
pub mod EntryTrees
pub mod Writes
pub mod Raises
pub mod Inserts
pub mod Hulls
pub mod Joins
pub mod Removes
pub mod Passes
pub mod Weights
pub mod Roots
pub mod Wholes
pub mod Tilings
pub mod Cells
-- Lists whose images stand in another order.
pub mod Orders
-- What becomes of the rows that an R-tree lists.
pub mod ListedMembers
pub mod Unmoved
pub mod Listings
