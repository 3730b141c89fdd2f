-- plans that can be opened
pub mod Openable
-- what passed their checks
pub mod Checked
-- sources of all kinds
pub mod Sources
-- stages of all kinds
pub mod Stages
-- and their laws
pub mod StageLaws
-- cursors over plans
pub mod Running
