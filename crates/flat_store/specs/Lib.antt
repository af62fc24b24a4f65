-- what is kept of the live blocks, and what it says of their states
pub mod Flats
-- how it is kept
pub mod Kept
