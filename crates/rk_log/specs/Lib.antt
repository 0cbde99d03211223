pub mod Piece
pub mod Cut
pub mod Known
pub mod Log
pub mod Parts
pub mod Stored
