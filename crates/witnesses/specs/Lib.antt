pub mod Programs
pub mod Checks
pub mod Runs
pub mod Replies
pub mod Rows
