pub mod Sources
pub mod Targets
pub mod Passing
pub mod Batches
