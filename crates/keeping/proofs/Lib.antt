pub mod Cores
pub mod Flows
pub mod Settings
pub mod Applied
pub mod Decided
pub mod Held
pub mod Rules
