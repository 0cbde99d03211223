pub mod Cached
pub mod Fields
pub mod Turns
pub mod Owners
