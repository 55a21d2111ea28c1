pub mod Check
pub mod Host
