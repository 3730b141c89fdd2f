-- keys of ints
pub mod Ints
-- entries follow the pairs of the tree
pub mod Pairs
-- the writing calls
pub mod Changes
-- what a search finds
pub mod Searches
pub mod Equals
pub mod Betweens
