pub mod Headlines
pub mod Digits
pub mod ByKey
pub mod LaneLines
pub mod Examples
pub mod Pieces
