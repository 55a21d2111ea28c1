pub mod Carries
pub mod Rows
