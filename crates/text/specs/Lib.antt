pub mod Line
pub mod Numbers
pub mod Hex
pub mod Put
pub mod Laws
