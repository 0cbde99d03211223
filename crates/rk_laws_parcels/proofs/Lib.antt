pub mod Headlines
pub mod Wires
pub mod Parcels
