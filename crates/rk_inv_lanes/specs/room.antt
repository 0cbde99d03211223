pub mod Fits
pub mod Kept
pub mod Logged
pub mod Replayed
