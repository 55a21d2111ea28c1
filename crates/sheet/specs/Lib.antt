pub mod Sheet
pub mod Rows
pub mod Line
pub mod Places
pub mod Laws
