pub mod Changed
pub mod Found
pub mod Left
pub mod Moved
