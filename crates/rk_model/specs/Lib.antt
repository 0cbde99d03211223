pub mod Machine
pub mod History
pub mod Merged
pub mod Ordered
pub mod Standing
