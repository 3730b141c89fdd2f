pub mod Reach
pub mod Item
pub mod Hierarchy
pub mod Answer
pub mod Frontier
pub mod Visits
pub mod Steps
pub mod Rows
pub mod Order
pub mod OrderLaws
pub mod Inside
pub mod Wanted
-- sets of small numbers as bits
pub mod Bits
pub mod IdSet
-- what a search within the distance 0 keeps
pub mod RowsAtZero
pub mod ZeroItems
-- what is asked of the hierarchy, and what it does to what is queued
pub mod WithinZero
pub mod OpensAs
-- the steps inside a call
pub mod InsideZero
