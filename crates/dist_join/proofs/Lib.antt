-- the pairs of places, and the laws
pub mod PairPlaces
-- the items of two leaves, squares in squares, and a side of a join
pub mod JoinPlaces
pub mod JoinLaws
-- the rows
pub mod JoinedRows
-- the counts
pub mod Counterparts
pub mod CountedPairs
pub mod Lawful
-- the code
pub mod FoundPairs
pub mod Expanding
pub mod RoomForPairs
-- examples
mod WorkedCases
