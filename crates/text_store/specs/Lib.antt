-- in reading order

-- what is told of a store
pub mod Store
-- what a load says and leaves
pub mod Loading
-- what a call with several visits leaves
pub mod Leaves
-- texts with counts
pub mod Counting
-- a store in memory
pub mod StoreStates
-- sets of texts
pub mod TextSets
-- partial states
pub mod PartialStates
