-- rows and their encodings
pub mod EncodedRows
-- what changes make of a database
pub mod ChangedDatabase
-- a store that changes led on
pub mod LedBy
-- changes that a store doesn't take
pub mod Declined
-- how a replay ends
pub mod Replayed
-- what is kept of a statement
pub mod KeptBody
