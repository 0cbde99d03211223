pub mod ReadLog
pub mod ReadMember
pub mod ReadLists
pub mod ReadOf
pub mod ReadBack
