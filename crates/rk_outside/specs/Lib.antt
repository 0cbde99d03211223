pub mod Adapters
pub mod Faults
pub mod Losses
pub mod Memory
pub mod Parts
pub mod Replicas
pub mod Segments
