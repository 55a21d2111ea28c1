pub mod Registers
pub mod Range
