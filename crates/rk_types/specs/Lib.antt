pub mod Text
pub mod Hashing
pub mod Held
pub mod NumberMap
pub mod Places
pub mod Range
pub mod Status
