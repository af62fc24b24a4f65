pub mod Children
pub mod Bitmaps
pub mod Digests
pub mod Records
