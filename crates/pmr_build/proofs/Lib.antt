-- the law of a build of all rows at once
pub mod Law
-- members come to the parts of a block's children
pub mod Meetings
pub mod Divisions
pub mod Kept
-- the entries of a block
pub mod Blocks
pub mod Children
-- the tree of all rows
pub mod Trees
pub mod Rows
pub mod Built
-- entries come into pages
pub mod Filled
