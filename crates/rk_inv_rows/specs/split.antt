pub mod Halves
pub mod Small
