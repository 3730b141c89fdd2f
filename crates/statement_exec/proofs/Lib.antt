-- an outcome from its checks
pub mod Outcomes
pub mod OutOfMemory
pub mod Refusals
-- lines that have their causes
pub mod CausedLines
-- checks that speak of nothing outside
pub mod PlanChecks
-- a setting of any store
pub mod SomeSetting
-- the checks of relations, by their names, read no more than their outline
pub mod OutlinedRelations
-- what the checks decide that need no page
pub mod Outlines
pub mod Decided
pub mod DecidedCalls
-- what the calls of a store do
pub mod StoreCalls
-- a load
pub mod FileFaults
pub mod LoadChecks
pub mod LoadCalls
-- the leaves side by side, and their lines
pub mod LeafSteps
pub mod Texts
pub mod LeafLoop
-- the leaves of a column
pub mod ColumnTrees
pub mod PageCauses
pub mod BlocksCalls
pub mod Endings
-- rows up to so many
pub mod CountedRows
pub mod Written
