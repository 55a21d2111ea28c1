pub mod Unused
pub mod Laws
