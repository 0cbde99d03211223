pub mod Headlines
pub mod Words
pub mod Keeping
pub mod Courses
pub mod Failing
pub mod Moving
pub mod Idle
pub mod Handing
pub mod Ending
pub mod Following
mod ByKind
pub mod Named
pub mod Found
pub mod Reached
pub mod Scene
pub mod Concerned
pub mod Unfolded
pub mod Occurred
mod Examples
pub mod Making
pub mod AtRest
pub mod Quiet
pub mod Lossless
