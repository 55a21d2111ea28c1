pub mod Depths
pub mod OnePaths
pub mod Ways
