pub mod NibbleLists
pub mod CommonLengths
pub mod PackedPaths
