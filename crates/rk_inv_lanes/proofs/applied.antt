pub mod Logs
pub mod Lanes
pub mod Sends
