-- what is kept of them
pub mod PartnerCounts
pub mod Listed
pub mod Standing
-- the visits
pub mod Visits
