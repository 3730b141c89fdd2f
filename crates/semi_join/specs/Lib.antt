pub mod LeftRows
pub mod FirstPairs
pub mod Visits
pub mod Listed
