-- kinds that are asked
pub mod Asked
-- one column, one operator
pub mod ColumnCheck
pub mod OperatorCheck
-- the names of a plan's relations
pub mod Search
-- columns and places of rows, resolved
pub mod Spots
-- rows with an equal value, one by one
pub mod Equals
-- columns with their indexes
pub mod Indexed
-- what a look-up costs
pub mod LookUpCosts
-- what only the proof needs
pub mod Steps
