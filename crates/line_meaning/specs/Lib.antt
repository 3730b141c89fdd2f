-- What a line of a script says.
pub mod Spoken
-- What reading one says.
pub mod Reading
-- Runs over a shelf that tells its data files or not.
pub mod ShelfRun
-- What lines print by what they say, over any disk.
pub mod Said
-- What carrying lines out does.
pub mod Carrying
