pub mod Defaulting
