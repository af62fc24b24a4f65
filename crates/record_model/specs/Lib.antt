-- Reading a record from left to right, in reading order.
-- fields, and the first that is not whole
pub mod Fields
-- what it is to read exactly what is spelled
pub mod Exact
-- packed paths
pub mod Paths
-- layouts, nodes and whole records
pub mod Records
-- which nodes fit at a place
pub mod Fits
-- worked records
pub mod Examples
