pub mod Telling
pub mod Receipts
pub mod Along
pub mod Effects
pub mod Playing
