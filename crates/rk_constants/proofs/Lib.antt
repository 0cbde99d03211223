pub mod Headlines
pub mod Refusals
