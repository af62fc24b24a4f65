-- What a reading meets over any set of texts, in reading order.
-- what can be seen below a digest
pub mod Seen
-- the steps of a lookup, of a listing and of a visit of the root
pub mod Steps
-- the visits that the steps make, and how a reading ends
pub mod Visits
-- what is seen of a trie whose texts are all there
pub mod Shown
-- which paths a lookup and a listing meet
pub mod Bounds
-- the keys and pairs of rows
pub mod Keys
-- a listing told by the places of a state
pub mod Listed
