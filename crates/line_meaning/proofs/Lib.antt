-- a line has one meaning
pub mod OneMeaning
-- one more line of a run
pub mod Runs
-- what a line does, from what it says
pub mod LineCalls
