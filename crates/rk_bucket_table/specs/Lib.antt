pub mod Cells
pub mod Spots
pub mod Scanning
pub mod Shown
pub mod Tables
