-- What is said of lists and of maps by number, passed on from one place.

pub mod Lists
pub mod Rising
pub mod Maps
pub mod MapSums
pub mod Completed
pub mod Bounds
pub mod Numbered
pub use Lists.*
pub use Rising.*
pub use Maps.*
pub use MapSums.*
pub use Completed.*
pub use Bounds.*
pub use Numbered.*
