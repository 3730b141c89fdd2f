-- a join as a hierarchy
pub mod Joining
-- what it gives
pub mod Answers
pub mod Laws
-- its code over pages
pub mod OverPages
pub mod Looks
-- a fact that the code's ghost items cite
pub mod Exact
