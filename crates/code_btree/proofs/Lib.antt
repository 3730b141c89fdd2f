pub mod Numbers
pub mod Pieces
pub mod Cells
pub mod Nodes
pub mod Edits
pub mod Orders
pub mod Lists
pub mod Moves
pub mod Seps
pub mod Stores
pub mod Halves
pub mod Looks
pub mod Rises
pub mod Leaves
pub mod Inserts
pub mod Counts
pub mod Roots
pub mod Gets
pub mod Finds
pub mod Frame
pub mod Floors
pub mod PageRuns
-- the chain of leaves, and where a run goes from one leaf to the next
pub mod LeafChain
pub mod Chains
-- the pairs of a key range in one leaf
pub mod BetweenLeaf
pub mod Betweens
pub mod Nears
pub mod Joins
pub mod Balances
pub mod Evens
-- two neighbours that were joined, or that shared, in the row of their parent
pub mod Mends
pub mod Removes
pub mod Packs
pub mod Falls
pub mod RunSteps
