pub mod play
pub mod settle
pub mod answers
