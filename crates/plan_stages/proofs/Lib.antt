-- a stable sort is unique
pub mod StableSort
pub mod Closures
-- the rows of a sorted list
pub mod SortedRows
-- lists without their first element
mod Rests
-- pages that were read
mod Reading
-- what may be read
mod Ready
-- the value of a row that a match holds
mod ValueRead
-- what becomes of a sort
mod Sorting
-- a sort by numbers
mod Numbered
-- a sort by gaps
mod Gapped
-- gaps
mod Measuring
-- shapes at places
mod ShapesRead
