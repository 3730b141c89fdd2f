-- the plane, its shapes, and what is in range
pub mod Grid
pub mod Plane
pub mod Shape
pub mod InRange
-- how the ids of a row are held
pub mod Ids
-- refusals
pub mod Refusal
-- the outside: when a call may fail, and what the streams in memory do
pub mod Faults
pub mod Streams
pub mod Calls
pub mod SureSource
pub mod MemSource
pub mod MemSink
pub mod Shelf
pub mod MemShelf
