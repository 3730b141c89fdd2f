-- How bytes are cut while they come.
pub mod Cutting
-- How the reader reads on to the next line.
pub mod Seeking
-- What the next answer says.
pub mod Pulling
