pub mod Nine
pub mod Sums
