pub mod Lent
pub mod Told
pub mod Versions
pub mod Numbers
pub mod Logs
pub mod Gathering
pub mod Counted
