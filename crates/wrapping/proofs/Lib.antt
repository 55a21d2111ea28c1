pub mod Wraps
