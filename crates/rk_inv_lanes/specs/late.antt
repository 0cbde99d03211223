pub mod Late
pub mod Unchanged
pub mod Sent
pub mod Refused
