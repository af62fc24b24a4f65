-- places of blocks
pub mod Places
-- prevs stand before
pub mod Earlier
-- what is kept
pub mod Kept
-- the place before one
pub mod Before
-- ways and what is gone of them
pub mod Cuts
-- blocks that are linked to their prevs
pub mod Linking
-- the table as it changes
pub mod Tables
-- blocks and places told apart
pub mod Apart
-- what a move makes of blocks
pub mod Fates
-- plans of moves
pub mod Planned
-- a move that is carried out
pub mod Leaving
-- the nearest of some blocks on a way
pub mod Searching
