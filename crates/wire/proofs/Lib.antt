pub mod Sevens
pub mod Parts
pub mod Frames
pub mod Examples
