pub mod Kept
pub mod Addresses
