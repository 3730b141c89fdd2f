-- The next rows of a cursor.
pub mod Steps
-- The open cursors, and what becomes of them.
pub mod OpenCursors
-- What is done beside open cursors is an outcome of the model.
pub mod Outcomes
-- What is carried out beside open cursors.
pub mod Carried
-- Where cursors over plans stand, and what opening one does.
pub mod PlanCursors
-- Where the open cursors stand over the pages of a pool.
pub mod OverPages
-- What a search farthest first prints.
pub mod FarthestLines
