pub mod SealedBehind
pub mod Stepped
