-- how often something is counted over live blocks
pub mod Counts
-- the texts of live blocks, and tables that hold exactly these
pub mod Tables
-- which texts of a block clash
pub mod Clashes
-- what comes of a block at its end
pub mod BlockEnds
-- how many texts an event of a history loads
pub mod Loads
-- counts of digests that are changed entry by entry
pub mod Entries
-- what the laws speak of
pub mod Laws
-- worked histories
pub mod Examples
