-- rows with keys
pub mod Keyed
-- rows that are still to come
pub mod Splits
-- the laws of stages
pub mod SplitLaws
-- `first n`
pub mod Firsts
-- tests of rows
pub mod Tests
-- `filter`
pub mod Filters
-- `fetch`
pub mod Fetches
-- `match`
pub mod Matches
-- its laws
pub mod MatchLaws
-- what filters and fetches cost, and what a match does
pub mod Prices
pub mod MatchPrices
-- what a sort took, and what is still to come
pub mod Sorting
-- sorts by numbers
pub mod Numbers
-- sorts by gaps
pub mod Gaps
-- the laws of both
pub mod SortLaws
-- what a key costs
pub mod SortPrices
