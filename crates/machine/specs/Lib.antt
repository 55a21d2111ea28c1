pub mod Applied
pub mod Steps
pub mod Alone
pub mod Direct
