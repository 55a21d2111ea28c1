pub mod Putting
pub mod Reading
pub mod Pairs
pub mod Back
pub mod Word
