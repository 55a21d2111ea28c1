pub mod Turn
pub mod Deed
pub mod Settled
pub mod Decides
pub mod Obeys
pub mod Obeyed
