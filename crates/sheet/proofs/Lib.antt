pub mod Below
pub mod Tables
pub mod Keys
pub mod Lines
pub mod Cells
pub mod Counts
pub mod Sets
pub mod Rules
