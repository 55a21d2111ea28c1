pub mod Waits
pub mod Steps
pub mod Replies
pub mod Answers
pub mod Known
