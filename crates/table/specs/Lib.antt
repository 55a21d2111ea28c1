pub mod Begun
pub mod Programs
pub mod Table
pub mod Examples
