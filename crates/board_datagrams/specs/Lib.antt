pub mod Command
pub mod Datagram
