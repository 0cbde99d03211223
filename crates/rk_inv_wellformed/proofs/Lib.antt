pub mod Words
pub mod Headlines
pub mod maps
pub mod masters
pub mod bytes
pub mod room
pub mod lanes
pub mod coordinator
