pub mod Small
pub mod Moves
