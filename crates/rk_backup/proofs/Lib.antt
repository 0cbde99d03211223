pub mod Accepting
pub mod Examples
