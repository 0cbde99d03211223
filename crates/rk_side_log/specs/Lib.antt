pub mod Spelled
pub mod Replayed
pub mod Side
pub mod Sides
pub mod Logs
