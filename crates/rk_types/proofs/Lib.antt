pub mod Examples
pub mod NumberMaps
pub mod Places
pub mod Trees
