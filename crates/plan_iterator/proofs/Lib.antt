-- the least number that passes a test
pub mod LeastNumbers
-- gaps in lowest terms
pub mod LowestFractions
pub mod PlanMeasure
-- operators over the first rows of their source
pub mod OverPrefixes
pub mod SortedPlans
pub mod TakenRows
-- what a reach takes in
pub mod DistinctItems
pub mod FartherReaches
-- what was found comes nearest first: sorted, filtered, or the first of each
pub mod FoundRises
pub mod RisingRows
pub mod GrowingReach
pub mod CountedVisits
pub mod VisitCounts
-- steps of the model
pub mod ModelSteps
-- what the next row of a plan needs of its source
pub mod NextNeeds
pub mod TakenSoFar
pub mod StepCalls
pub mod CursorSteps
-- a plan over the plan beneath it: what it makes, whether it is lazy, and when it is full
pub mod PlansBeneath
-- plans level by level
pub mod Levels
-- what follows for each operator
pub mod Fronts
-- what steps pay
pub mod Payments
-- visits, what is asked and what was taken, one level up
pub mod LevelsUp
-- steps of an operator over another: it works, waits or finishes
pub mod StepsOver
-- steps over steps
pub mod Stepping
-- steps of a source
pub mod Sourcing
-- steps where the disk tells its pages
pub mod Told
-- rows and the source rows that they come from
pub mod RowGaps
-- what a step asks of the source
pub mod AskedOnce
-- payments one after the other
pub mod Chained
-- what steps have taken, the same in code and model
pub mod StepsTaken
-- the steps of a call
pub mod Advancing
-- the same where the disk tells its pages
pub mod ToldCalls
-- the number of rows
pub mod Counting
-- what the model says is taken after each step
pub mod ModelTaken
