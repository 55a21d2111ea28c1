pub mod Registers
pub mod Range
pub mod Laws
