pub mod Words
pub mod Causes
pub mod Ledgers
pub mod Owners
pub mod Reported
pub mod Sessions
pub mod Stopped
pub mod Wrongs
