-- keys and entries
pub mod Lists
pub mod Keys
pub mod Listing
pub mod Entries
-- quadtrees in pages
pub mod Quadtree
pub mod Calls
pub mod PageLaws
pub mod Laws
-- what only proofs need
pub mod Changes
pub mod Starts
pub mod Leaves
pub mod FirstIds
pub mod Parts
pub mod Plot
