pub mod Points
pub mod Reach
pub mod Laws
