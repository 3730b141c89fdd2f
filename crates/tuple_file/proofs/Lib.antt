-- bytes pasted into a page
pub mod Pastes
-- places, pages and ids, counted and listed
pub mod Counts
pub mod Lists
-- a file and its pages, and the places to which ids lead
pub mod Houses
pub mod Leads
-- the writing calls
pub mod Settles
pub mod Puts
-- what a file has at its places once a tuple left its page
pub mod PlacesLeft
pub mod Takes
-- the reading calls, and rows in place of bytes
pub mod Fetches
pub mod Tables
