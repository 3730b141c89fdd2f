-- what is printed of one step
pub mod Stepping
-- what is printed of some
pub mod Printing
