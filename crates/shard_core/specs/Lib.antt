-- in reading order

-- what is kept of a live block's trie
pub mod Ledgers
-- errors by those of a store
pub mod Errors
-- texts that are added and digests that are released, one after the other
pub mod Counting
-- the tries of live blocks
pub mod KeptTries
-- what calls answer
pub mod Answers
-- what a shard keeps
pub mod Shards
-- what its calls answer and leave
pub mod ShardAnswers
-- a shard as a store of texts
pub mod Loaded
