-- ascending lists of numbers: filters, and numbers put in
pub mod AscendingLists
pub mod Orders
pub mod Quarter
pub mod KeyLists
-- growing a tree: what fits goes on to fit, and full trees stay full
pub mod GrownTrees
pub mod Growth
pub mod Steps
pub mod Entries
pub mod Refusals
pub mod LeafSteps
pub mod SplitSteps
pub mod PartSteps
pub mod GrowSteps
pub mod LeaveSteps
pub mod Unions
pub mod MergeSteps
pub mod ShapeLaws
pub mod Counts
pub mod PairLists
pub mod OwnPages
pub mod TreeAt
pub mod Grown
pub mod OwnLaws
pub mod Values
pub mod Shrunk
pub mod Ranges
pub mod Planted
pub mod Places
pub mod Roughs
pub mod Looked
-- the quarter of a block that has a code, and the keys there
pub mod CodeInQuarter
pub mod LeafOfCode
pub mod Begins
pub mod Ends
