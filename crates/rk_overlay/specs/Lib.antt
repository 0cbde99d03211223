pub mod Newest
pub mod Live
pub mod Plain
pub mod Overlay
pub mod Lent
