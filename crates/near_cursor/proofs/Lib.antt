-- the nodes of the tree
pub mod NodeLemmas
pub mod InPlane
-- the rows, and the laws
pub mod RowLemmas
pub mod NearHierarchy
pub mod NearBounds
pub mod NearCounted
pub mod NearLawful
-- the code
pub mod NearSearching
