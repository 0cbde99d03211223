pub mod Changes
pub mod Handled
pub mod Lane
