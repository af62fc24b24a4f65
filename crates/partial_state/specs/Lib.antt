-- in reading order

-- reads and changes
pub mod Operations
-- recordings that are read
pub mod Recordings
-- what is answered where reads and a batch are carried out, and where a recording is replayed
pub mod Replays
-- texts that were noted, and stores whose loads are
pub mod NotedTexts
pub mod Recorders
-- recordings that are made from a store
pub mod Proofs
