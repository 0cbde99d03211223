pub mod MoreLog
pub mod Grown
