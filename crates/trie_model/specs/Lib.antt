-- The trie of a state, in reading order.
-- states, their pairs and their rows
pub mod State
-- the trie of a list of rows
pub mod Tree
-- nibbles before the paths of rows, and before a trie
pub mod Grown
-- usages, nodes, texts and places
pub mod Texts
-- the trie of a state: its texts, root and total; tables that hold it
pub mod Root
-- what the laws speak of
pub mod Laws
-- worked states
pub mod Examples
