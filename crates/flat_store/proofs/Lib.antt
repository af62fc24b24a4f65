-- hash tables and maps
pub mod Tables
-- changes laid over a map, one after the other
pub mod Laying
-- ids that are gone through, and the changes under them
pub mod Passing
-- a map that is filled with pairs, entry by entry
pub mod Filling
-- the pairs of a map with changes laid over
pub mod Puts
-- changes gathered from several blocks, the newest first
pub mod Noting
-- the way from a live block to the head
pub mod Ways
-- a read of one key
pub mod Lookups
-- what is kept of live blocks with their states
pub mod Follows
-- what is kept after a move of the head
pub mod Moved
-- what holds of the tables
pub mod Kept
-- what a move passes
pub mod Planned
-- how many keys are changed
pub mod Counts
-- a tree and what is kept of its blocks, changed together
pub mod Together
-- the index
pub mod Listing
