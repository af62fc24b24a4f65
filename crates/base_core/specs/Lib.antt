-- in reading order

-- the numbers that no run goes beyond
pub mod Bounds
-- counts of faults
pub mod Faults
-- objects in memory that fail at chosen calls
pub mod Failing
-- maps by keys with no more keys than may be, and why a key is refused
pub mod KeptMaps
-- what pairs are seen as
pub mod PairMaps
-- what a batch of changes is seen as
pub mod ChangeMaps
-- what a reader's calls answer
pub mod Reading
