-- the greatest distances, and keys
pub mod KeyBounds
pub mod Farthest
-- the hierarchy
pub mod FarRanking
-- what it gives
pub mod FarAnswer
pub mod FarLaws
-- the cursor
pub mod FarCursor
