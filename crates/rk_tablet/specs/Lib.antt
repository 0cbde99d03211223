pub mod Tablets
pub mod Pulls
pub mod Rebuilding
