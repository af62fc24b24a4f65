-- byte strings in hexadecimal, keys and values
pub mod Spellings
-- lines of an input, what they ask for, and why one is not read
pub mod Lines
-- what the program is asked to do
pub mod Words
-- what the things keep to that lines and words ask for
pub mod Bounds
