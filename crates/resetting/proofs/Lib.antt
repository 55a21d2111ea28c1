pub mod Ones
pub mod Rules
