-- Lists and what is made of the numbers below a bound.
pub mod Lists
pub mod Below
-- Integers, keys and paths as bytes, and the records of nodes.
pub mod Widths
pub mod Digits
pub mod Paths
pub mod Spellings
