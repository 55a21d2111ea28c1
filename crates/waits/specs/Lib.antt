pub mod Waits
pub mod Laws
