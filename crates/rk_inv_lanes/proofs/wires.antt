pub mod Sums
pub mod Sends
pub mod Orders
pub mod Answers
pub mod Steps
pub mod Emptied
