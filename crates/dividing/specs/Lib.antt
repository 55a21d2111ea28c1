pub mod Divide
pub mod Laws
