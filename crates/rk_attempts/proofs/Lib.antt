pub mod Attempting
mod ByKind
pub mod Coming
pub mod Examples
pub mod Finding
pub mod Works
