pub mod Words
pub mod Placing
pub mod Versions
pub mod Logs
pub mod Changes
