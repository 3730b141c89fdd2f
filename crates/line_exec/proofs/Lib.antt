-- changes over a shelf
pub mod ShelfChanges
-- What a statement does beside open cursors is what its line does.
pub mod SaidLines
-- Moments that follow one another.
pub mod Moments
-- What a line does, from what its statement does.
pub mod LineSteps
-- A store that is lent.
pub mod Lent
-- what a line does to a journal
pub mod Kept
-- the records that a call appends
pub mod Appended
-- where a change leads a store
pub mod Led
-- what is to be kept of a statement
pub mod ToKeep
-- the changes that a line makes
pub mod LineChanges
-- what a line keeps
pub mod LineKept
