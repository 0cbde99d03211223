pub mod Balance
pub mod Queue
