-- No definitions: the law is said in the words of script_text.
-- settings of a moment
pub mod Settings
-- The early checks read the outline of a state alone.
pub mod Outlines
-- runs over a shelf
pub mod ShelfRuns
-- the refusals that come from outside
pub mod Causes
-- runs in which nothing outside fails but memory
pub mod Undisturbed
-- the one output of a script
pub mod Determined
-- cursors and the rows that they give
pub mod Following
-- what a refused line leaves
pub mod Refused
-- refused lines in the text
pub mod SeenRefusals
