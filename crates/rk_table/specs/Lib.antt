pub mod Order
pub mod Items
pub mod Scans
pub mod Places
pub mod Sorted
