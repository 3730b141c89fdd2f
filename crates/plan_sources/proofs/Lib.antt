-- a call of a source without distances
pub mod PlainSteps
-- scans, and picks of a value
mod Scans
mod Picks
-- picks within bounds
mod Sorting
mod Between
mod Bounds
-- of every search: the next row, and what may still be taken
pub mod NextRow
pub mod Filled
pub mod Shorter
pub mod HowFar
pub mod NextReach
-- of rankings
pub mod TreeCounts
pub mod RankVisits
pub mod RankCounts
pub mod RankPlans
pub mod RankCalls
pub mod SingleItems
pub mod OverPages
-- how a source begins
pub mod Begun
-- what a call costs
pub mod RankPrices
-- what is visited, and how often
pub mod NearVisits
pub mod NearCounts
-- the calls of the source
pub mod NearCalls
pub mod NearOverPages
-- how a source begins
pub mod NearBegun
-- what a call costs
pub mod NearPrices
-- no node is read twice
pub mod NodesOnce
-- pairs of places, their number, and visits
pub mod PairOrder
pub mod PairLengths
pub mod PairVisits
pub mod PairCounts
-- plans and calls
pub mod PairPlans
pub mod PairCalls
pub mod Unasked
-- joins
pub mod JoinCalls
pub mod JoinOverPages
pub mod BegunPairs
-- semi-joins
pub mod FirstsLeft
pub mod SemiCalls
pub mod SemiOverPages
pub mod LeftShapes
pub mod BegunFirsts
-- joins of k partners
pub mod PartnersLeft
pub mod KnnCalls
pub mod KnnOverPages
pub mod BegunPartners
-- what a call costs
pub mod PairPrices
