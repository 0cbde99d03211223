pub mod Hashes
pub mod Batches
