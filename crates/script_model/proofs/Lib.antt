pub mod Asked
pub mod LineFaults
pub mod LineParts
