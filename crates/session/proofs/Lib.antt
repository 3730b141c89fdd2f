-- How the lines of a script lead a run on.
pub mod LinesCarried
-- What lines say.
pub mod LinesSaid
-- How a run ends.
pub mod Endings
-- How it ended, where less is said of its lines.
pub mod EndsWeaker
-- How a run on a store ends.
pub mod ScriptEndings
-- What the answer of a call says.
pub mod Answered
-- How lines lead a run on while cursors are open.
pub mod OpenRuns
-- A line that is too long.
pub mod LongLines
-- How a run of a workload ends.
pub mod WorkloadEndings
-- What a status says of a run that keeps its changes.
pub mod KeptStatuses
-- With which world a run begins behind a journal.
pub mod KeptTapes
-- How a run that keeps its changes ends.
pub mod KeptEndings
-- A run that began met no bad record.
pub mod GoodRecords
-- The changes of a run, line by line.
pub mod KeptChanges
-- What a run behind the changes of its journal leaves on its tape.
pub mod KeptBehind
