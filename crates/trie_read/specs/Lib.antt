-- in reading order

-- how a reading ended, by its answer
pub mod Endings
-- what one load answers
pub mod Loads
-- what asking for a usage answers
pub mod Usages
-- what a lookup answers
pub mod Lookups
-- the places of a listing that are still to be visited
pub mod Walks
-- what a listing answers
pub mod Listings
