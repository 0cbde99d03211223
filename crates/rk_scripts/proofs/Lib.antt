pub mod Headlines
pub mod Words
pub mod play
pub mod settle
pub mod answers
