pub mod Clients
pub mod Growing
pub mod Lane
pub mod Noted
pub mod Values
