-- worked histories by computing
pub mod Worked
-- sums over lists
pub mod Sums
-- what is counted, whatever it is
pub mod Counted
-- the texts of live blocks
pub mod Live
-- the laws on counts
pub mod Told
-- tables that hold what is counted
pub mod Held
-- texts and their digests are counted alike
pub mod Alike
-- the texts of a state after a batch
pub mod Completed
-- the states of live blocks keep to the limits
pub mod Limits
-- counts that are changed entry by entry
pub mod ByEntries
-- which texts clash
pub mod Clashing
-- how many texts a state has
pub mod Bounded
-- loads and visits
pub mod Loaded
-- how many different texts there are
pub mod Different
-- tables that are changed with the blocks
pub mod Following
-- what comes of a block
pub mod Ends
