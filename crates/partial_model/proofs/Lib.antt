pub mod Falls
pub mod Clashes
pub mod Reading
pub mod Sets
pub mod Changes
pub mod Recording
pub mod Worked
