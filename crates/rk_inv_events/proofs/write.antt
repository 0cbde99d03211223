pub mod Choosing
pub mod Ending
pub mod Staging
pub mod Taken
