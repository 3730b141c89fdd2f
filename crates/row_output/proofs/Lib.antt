-- the lines of rows
pub mod RowLines
-- a step and its line
pub mod Stepped
-- steps that give rows
pub mod RowSteps
-- texts behind texts
pub mod Texts
-- lines of rows, counted
pub mod CountedLines
-- what was printed so far
pub mod SoFar
-- the same where the disk tells its pages
pub mod Told
-- for callers: what may be refused
pub mod StepsAllowed
