pub mod Turns
pub mod Rules
