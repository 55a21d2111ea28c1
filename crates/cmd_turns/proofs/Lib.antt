pub mod Settled
pub mod Decides
