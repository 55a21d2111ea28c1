pub mod Scan
pub mod Filled
pub mod Rules
pub mod Computed
