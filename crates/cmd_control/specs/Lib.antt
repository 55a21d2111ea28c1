pub mod Placing
pub mod Carried
pub mod Defaults
pub mod Stored
