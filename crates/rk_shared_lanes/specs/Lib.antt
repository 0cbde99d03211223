pub mod Counting
pub mod Kept
pub mod Passes
pub mod Together
