-- one check after another
pub mod Refusals
-- columns and places
pub mod Columns
-- operators, and how many they are
pub mod Operators
pub mod Depths
-- what is left of a list
pub mod Rests
-- where the checks pass
pub mod Passed
-- values, and pairs of ids and values
pub mod SameValues
pub mod Above
pub mod ColumnValues
pub mod IntColumns
-- names
pub mod Naming
-- values that are read in place of rows
pub mod ValuesRead
-- look-ups
pub mod EqualIds
pub mod LookedUp
pub mod LookUps
pub mod LookUpPrices
