pub mod Storing
pub mod Fronts
pub mod Reading
