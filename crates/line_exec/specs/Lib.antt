-- What a line does to a journal.
pub mod Keeping
-- Which changes a line makes.
pub mod MadeChanges
-- The changes that are kept.
pub mod KeptChanges
-- What a line does beside open cursors.
pub mod LineCarried
