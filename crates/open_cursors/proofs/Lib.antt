-- the steps of a cursor
pub mod StepCalls
pub mod RowsWritten
-- the open cursor of a name, where it makes steps and where it is gone
pub mod NamedCursors
pub mod ClosedCursors
-- the names of the open cursors, whatever the pages
pub mod OpenNames
-- their stamps
pub mod HeldStamps
-- the checks of a new cursor
pub mod OpenChecks
-- the causes of the lines of steps
pub mod CausedSteps
-- names of their own
pub mod OwnNames
-- what the names of the open cursors decide
pub mod DecidedCursors
-- outcomes beside open cursors
pub mod CursorOutcomes
-- the numbers of a cursor
pub mod CursorNumbers
-- Lines that were written, one and up to a refusal.
pub mod Written
-- Steps of a cursor, and those behind which nothing is printed.
pub mod MoreSteps
-- How many rows cursors gave.
pub mod Given
-- What becomes of the open cursors.
pub mod Carrying
-- The same over pages that are told.
pub mod ToldSteps
-- The numbers of a cursor.
pub mod NumberLines
-- Statements with a plan.
pub mod PlanOutcomes
-- The rows of a cursor that has no name.
pub mod NewRows
-- Over a disk that tells no pages.
pub mod NextByName
-- The checks of plans and openings.
pub mod Checked
-- The open cursors with one more.
pub mod OneMore
-- What is written of an opening.
pub mod Openings
-- What is written of the first rows of a plan.
pub mod Showings
-- The maps that are told.
pub mod ToldStamps
-- Steps over the pages that a stamp holds.
pub mod StampSteps
-- Statements over a pool, whose disk tells its pages or not.
pub mod OverPool
-- A map taken or let go, and what a statement that reads leaves.
pub mod Released
-- A store whose pages are lent.
pub mod Lent
-- The rows farthest from a point, step by step, and what they are of the outcome.
pub mod FarthestSteps
pub mod FarthestOutcomes
