pub mod Words
mod Plays
pub mod Carried
pub mod Gathered
pub mod Held
pub mod Shown
pub mod Settled
pub mod Openings
pub mod Sending
pub mod Reaching
pub mod Concluding
pub mod Reporting
pub mod Leaving
pub mod Telling
mod Feeding
pub mod Failing
pub mod Rising
