-- the tree, and the laws
pub mod Elements
pub mod Places
-- the greater of two gaps, shapes by their ids, and items of a leaf
pub mod RankedItems
pub mod RankingLaws
-- the rows
pub mod SortedRows
pub mod RankedRows
-- the counts
pub mod Pigeons
-- items of leaves as the frontier holds them, each once
pub mod CountedItems
pub mod Counted
-- the code
pub mod AlikeLists
pub mod Fitted
pub mod LeafEntries
pub mod AtZeroEntries
pub mod Touching
pub mod Lawful
-- pages that are told, weights, and a ranking over pages
pub mod SearchPages
pub mod Searching
pub mod OpenedAtZero
