pub mod Resetting
pub mod Laws
