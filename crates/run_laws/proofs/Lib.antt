-- a reading of each line
pub mod Readings
-- what the lines of a script say
pub mod ScriptReadings
-- settings of a moment
pub mod Settings
-- runs over a shelf
pub mod ShelfRuns
-- no check speaks of the outside
pub mod PlanChecks
pub mod StatementChecksInside
-- the causes of refusals
pub mod Counted
pub mod CausesOfRuns
-- runs that nothing outside disturbs but memory
pub mod DefinedOutcomes
-- cursors and the rows that they give
pub mod StepsFollow
pub mod CursorsByName
pub mod CursorsInRuns
-- rows that are taken in two parts, and those that a line's `next` prints
pub mod NextsOfLines
pub mod NextsInRuns
pub mod OpenedCursors
-- what a refused line leaves
pub mod RefusedLines
pub mod RefusedNexts
-- the one output of a script
pub mod CalmRuns
-- refused lines in the text
pub mod LineTexts
pub mod SeenLines
pub mod DecidedLines
