-- how the tree is kept, and what contracts see of it
pub mod Kept
-- what calls answer
pub mod Answers
-- the nearest of some blocks
pub mod Nearest
