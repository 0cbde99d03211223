pub mod LastCalls
pub mod MadeOf
pub mod RebuiltEnds
