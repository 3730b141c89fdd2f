-- sources and stages by their kind
pub mod SourceDispatch
pub mod StageDispatch
-- what names lead to
pub mod Resolved
-- plans level by level
pub mod Opened
-- the sources and the stages of plans
pub mod Started
pub mod StagesStarted
-- places and tests one after another
pub mod Added
pub mod Begun
