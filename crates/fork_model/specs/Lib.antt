-- the tree of live blocks, seen by ids, prevs and heights
pub mod Trees
-- live blocks with their states and changes
pub mod States
-- what the laws over the definitions speak of
pub mod Laws
-- a worked history
pub mod Examples
