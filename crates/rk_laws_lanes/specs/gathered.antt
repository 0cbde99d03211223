pub mod Answers
pub mod Gathered
pub mod OpenCalls
pub mod Sessions
pub mod StoredHistory
