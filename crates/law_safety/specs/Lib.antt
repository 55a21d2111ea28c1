pub mod Events
pub mod Laws
