pub mod Checks
pub mod Computed
