-- The recording of a state, and what is visited where one is replayed, in reading order.
-- the texts of a state that reads and a batch touch
pub mod Recorded
-- what reads and a batch visit over any set of texts, and what is answered
pub mod Replays
-- when texts can't be taken for others
pub mod Agreeing
