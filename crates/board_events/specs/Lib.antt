pub mod Standing
pub mod Events
pub mod Parts
pub mod Filling
