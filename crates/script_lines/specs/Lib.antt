-- Read in this order. How a script is cut into lines.
pub mod Lines
-- What the reader's parts do, and where it stands between two bytes.
pub mod Parts
-- The bytes that were read, and the lines of them that were given.
pub mod Reading
