pub mod ReadBack
pub mod Moves
