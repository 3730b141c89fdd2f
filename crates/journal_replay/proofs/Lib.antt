-- changes of the code
pub mod Lines
-- rows read from their encodings
mod Decoded
-- which of them enter a relation
pub mod Entered
-- a change that is refused
mod Declined
-- changes, one after the other
pub mod Leading
-- a replay, record by record
mod ReplaySteps
-- what is kept of rows, and of a statement
mod KeptRows
pub mod KeptLines
-- what changes do is what their statements did
pub mod RowChanges
