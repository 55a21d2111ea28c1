pub mod With
pub mod Image
pub mod Rows
pub mod Register
pub mod Laws
pub mod Numbers
pub mod Row
