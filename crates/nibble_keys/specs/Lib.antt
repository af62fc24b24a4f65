pub mod CommonLength
pub mod Unpacking
