-- what is held after a text is added, or a digest released
pub mod Stored
-- the table of ledgers
pub mod Tabled
-- the tries at the start
pub mod Started
-- what a batch gains and loses, entry by entry
pub mod Netted
-- texts that are added
pub mod Gathered
-- digests that are released
pub mod Lowered
-- blocks that go, and blocks that stay
pub mod Behind
-- a move over the tries
pub mod Moved
-- one more live block, and what its batch gains and loses
pub mod Grown
-- a block over the tries
pub mod Taken
-- a batch over the trie of a live block
pub mod Batches
-- a block from its batch to what comes of it
pub mod Accepted
-- what a shard has of its blocks
pub mod OfBlocks
-- what reading a live block's trie leaves
pub mod Reading
-- what is answered to a block
pub mod Answering
-- a move over the whole
pub mod Moving
-- a block over a shard, and what each of its ends leaves
pub mod Offered
