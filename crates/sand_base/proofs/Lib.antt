-- the first data file of a name
pub mod NamedFiles
