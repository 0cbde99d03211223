pub mod Headlines
pub mod Courses
pub mod Events
pub mod Histories
pub mod Settling
pub mod Visits
pub mod Working
pub mod Below
