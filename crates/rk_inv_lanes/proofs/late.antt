pub mod Tests
pub mod Orders
pub mod Lanes
pub mod Refusals
pub mod Answered
pub mod Plain
pub mod Sources
