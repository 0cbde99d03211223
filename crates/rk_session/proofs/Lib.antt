pub mod Filters
pub mod Finishing
pub mod Lanes
pub mod Owned
pub mod Turning
