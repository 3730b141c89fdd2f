-- the nodes of the tree
pub mod TreeNodes
-- a ranking as a hierarchy, and what it gives
pub mod NearRanking
pub mod NearLaws
-- facts that the code's ghost items cite
pub mod NodeExact
