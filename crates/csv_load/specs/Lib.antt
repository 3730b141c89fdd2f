-- how a file is read from a shelf
pub mod FileBytes
-- what a field of a data file is
pub mod FieldValue
-- the rows of a data file, and what a fault tells of them
pub mod FileRows
-- how far the records of a file have been read
pub mod Progress
