pub mod Places
pub mod Counts
pub mod Regroup
pub mod Wider
pub mod Scalars
