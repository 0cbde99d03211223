pub mod FoundItems
pub mod OwnCounts
pub mod RecordFound
pub mod Ended
pub mod Repeating
pub mod Reading
