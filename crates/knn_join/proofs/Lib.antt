-- lists
pub mod Nearests
pub mod Tallies
pub mod Laters
-- the counts
pub mod Counting
-- the calls
pub mod Bounds
pub mod Turns
pub mod ForLayers
