pub mod Accepts
pub mod Lane
