pub mod Runs
pub mod Prefixes
pub mod SoundRows
pub mod Shows
pub mod RowsAt
pub mod Branches
pub mod Subtrees
pub mod States
