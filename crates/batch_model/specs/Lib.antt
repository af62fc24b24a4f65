-- a batch of changes, and a state with it laid over
pub mod Changes
