pub mod Appended
pub mod Brought
pub mod Fitting
