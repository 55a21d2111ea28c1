pub mod Waits
pub mod Refusals
pub mod Steps
pub mod Words
pub mod Replies
pub mod Answers
pub mod Known
