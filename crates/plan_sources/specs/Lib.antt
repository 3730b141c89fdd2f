-- sources of rows without distance
pub mod Plain
-- what their steps cost
pub mod Prices
-- a ranking as the source of a plan
pub mod Rankings
-- a ranking by an R-tree as the source of a plan
pub mod NearPlans
-- which nodes it has read
pub mod NodesRead
-- what a call of it does
pub mod NearSteps
-- joins and semi-joins as the sources of plans
pub mod Joins
