-- distances and keys
pub mod Axes
pub mod Reaching
pub mod KeyOrder
pub mod FarSound
-- the laws
pub mod KeyedLaws
pub mod FarLaws
pub mod FarRows
-- the code
pub mod FarEntries
pub mod FarWeights
pub mod FarSearching
-- the cursor
pub mod FarCalls
pub mod FarPages
pub mod FarColumns
pub mod FarBegun
