pub mod Leading
pub mod Depths
pub mod Laws
