pub mod Added
pub mod Owners
pub mod Sent
pub mod Worn
