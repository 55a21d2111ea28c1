pub mod Divisor
pub mod Whole
pub mod Together
