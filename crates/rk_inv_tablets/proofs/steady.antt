pub mod Sealed
pub mod Handovers
pub mod Turns
pub mod Steps
pub mod Walks
pub mod Lanes
