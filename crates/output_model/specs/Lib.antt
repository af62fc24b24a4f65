-- In reading order: how a run ends, what a script gives event by event, the command `root`, what is read of live blocks, histories of blocks, the commands `apply`, `get`, `prove` and `replay`, and the whole output.
pub mod Ends
pub mod Scripts
pub mod Root
pub mod Readings
pub mod Histories
pub mod Apply
pub mod Get
pub mod Prove
pub mod Replay
pub mod Output
-- what the laws over histories speak of, and worked histories
pub mod Laws
pub mod Examples
