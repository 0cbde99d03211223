pub mod Changes
pub mod Steps
pub mod Items
pub mod Sends
