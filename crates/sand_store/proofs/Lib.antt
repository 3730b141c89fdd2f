-- what a change doesn't touch stays
pub mod Frames
pub mod Stays
-- rows as bytes
pub mod Decodes
pub mod ColumnsOfShapes
pub mod RowLists
pub mod TreeGrowth
pub mod IndexGrowth
pub mod RowsLeft
pub mod PathLoss
-- the relation of a name
pub mod RowKinds
pub mod Names
pub mod Places
pub mod Found
-- a relation changed in its place
pub mod Databases
pub mod PathSteps
pub mod TreeSteps
pub mod TreeTurns
pub mod WholeTree
pub mod RelationTrees
pub mod Midway
pub mod RowGrowth
pub mod RowLoss
pub mod Changes
pub mod Sketched
pub mod Inserts
pub mod InsertCall
-- the calls
pub mod Refusals
pub mod Creates
pub mod DeleteCall
-- a load
pub mod RowChecks
pub mod PlainChecks
pub mod SchemaRows
pub mod Loads
-- what a relation tells
pub mod ColumnPaths
pub mod RelationFound
pub mod RowCounts
-- an index of rows that are there
pub mod Listings
pub mod TreeFill
pub mod IndexFill
-- an index that has the first rows of a file, and each step from one row to the next
pub mod HalfFilled
pub mod Filling
pub mod Planting
-- why the call that makes an index is refused
pub mod IndexRefusals
pub mod IndexCall
-- an R-tree of rows that are there
pub mod ColumnTrees
pub mod Gathering
pub mod RtreeCall
