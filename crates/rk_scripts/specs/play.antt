pub mod Alone
pub mod Steps
pub mod OneMap
pub mod Led
pub mod Historical
