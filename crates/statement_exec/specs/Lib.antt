-- Read in this order. What statements are carried out on.
pub mod Moment
-- The causes of lines that blame the outside.
pub mod Causes
-- What is decided without a page.
pub mod Outline
pub mod Deciding
-- What carrying one out does, and what is printed of it.
pub mod Performing
pub mod Printing
pub mod Ending
-- What a load reads before it touches a page.
pub mod FileReading
pub mod Loading
pub mod Entering
-- The leaves of a quadtree.
pub mod LeafLines
pub mod LeafWalk
