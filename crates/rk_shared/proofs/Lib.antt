pub mod Ordered
pub mod Powers
