-- The bytes that records are made of, in reading order.
-- integers, vectors and options as Borsh spells them
pub mod Borsh
-- a key as nibbles
pub mod Nibbles
-- a path of nibbles as bytes
pub mod PackedPath
-- sums and joins over the numbers below a bound
pub mod Below
-- nodes, their records, shapes and costs
pub mod Node
-- what the laws speak of
pub mod Laws
