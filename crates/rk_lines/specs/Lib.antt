pub mod Lines
pub mod Tablets
pub mod Records
pub mod History
pub mod Differences
