pub mod Places
pub mod Stack
