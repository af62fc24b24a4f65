-- the top of a trie, while its record is not made
pub mod Tops
-- what a value and children join to
pub mod Joins
-- what a batch makes of what is seen
pub mod Updates
-- what changes and tops keep to
pub mod Sound
-- what is seen, where a batch visits it
pub mod Stands
-- how much usage a change may add
pub mod Growth
