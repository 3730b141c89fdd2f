-- the value of an option passed its parser
pub mod OptionalValues
-- the matches of the command
pub mod SandMatches
-- the words of a run with a journal
pub mod KeptAsked
