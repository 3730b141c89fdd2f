-- the numbers
pub mod Draws
-- the lines
pub mod Workload
-- how far a workload has come
pub mod Progress
-- the script of a workload
pub mod Script
-- the files of a run that loads none
pub mod EmptyFiles
-- the lines that tell a refusal
pub mod RefusedLines
-- the four lines
pub mod Summary
-- what is kept of the lines of a text
pub mod Tally
-- what a sink took of which it keeps the digest
pub mod Taken
