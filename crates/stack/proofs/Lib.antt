pub mod Entries
pub mod Anew
