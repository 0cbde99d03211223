pub mod Phase
pub mod Rows
