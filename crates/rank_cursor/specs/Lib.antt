-- a ranking as a hierarchy
pub mod Ranking
-- what it gives
pub mod Answers
pub mod Laws
-- its code over pages
pub mod Cursor
pub mod AtZero
-- facts that the code's ghost items cite
pub mod Props
pub mod Exact
