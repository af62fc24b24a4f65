pub mod Meanings
pub mod Children
pub mod Views
pub mod Layouts
