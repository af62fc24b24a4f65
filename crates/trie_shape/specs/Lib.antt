-- rows by their first nibbles
pub mod Runs
-- the pairs of a map as such rows
pub mod RowsAt
-- what a subtree stands for, and what a record that was written does
pub mod Shows
