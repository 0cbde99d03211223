pub mod Workload
pub mod Summary
