-- ids, and blocks by their ids
pub mod Ids
-- lines of descent
pub mod Lines
-- blocks accepted, moves of the head, and descent
pub mod Moves
-- who descends from whom
pub mod Descent
-- each live block is told once
pub mod Partition
-- why blocks are refused
pub mod Faults
-- what a move passes
pub mod Passed
-- live blocks with their states
pub mod States
-- the laws
pub mod Told
-- worked histories by computing
pub mod Worked
