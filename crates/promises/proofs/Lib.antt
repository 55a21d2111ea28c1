pub mod Rules
pub mod Computed
pub mod Kept
pub mod Refusals
