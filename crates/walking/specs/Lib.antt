pub mod Walk
pub mod Found
pub mod Laws
