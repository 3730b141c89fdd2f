-- rows, and gaps in lowest terms
pub mod Lowest
pub mod Rows
-- where visits lie
pub mod Visited
-- a call of a source
pub mod SourceSteps
-- what a call of a source costs
pub mod Prices
-- plans level by level
pub mod Outermost
-- what a step of an operator gives
pub mod Steps
-- stages: what one operator does with the rows beneath it
pub mod Stages
-- what a stage says of a row that it looks at
pub mod Sifts
-- operators over operators over a source
pub mod Following
-- what steps pay
pub mod Paying
-- a step of the cursor of the model
pub mod CursorStep
-- what was taken of a source, and what is counted of it
pub mod Needed
-- where a cursor stands
pub mod Standing
-- what a call pays
pub mod PaidCalls
