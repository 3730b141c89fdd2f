-- codes that no other code begins with
pub mod PrefixFree
-- numbers as bytes
pub mod Numbers
-- one thing after another
pub mod Pairs
-- many things of one sort
pub mod Lists
-- texts, points, segments, rings
pub mod Corners
-- control characters
pub mod Texts
-- how long encodings are
pub mod Sizes
-- values and rows
pub mod Rows
-- values that are passed over
pub mod Passes
