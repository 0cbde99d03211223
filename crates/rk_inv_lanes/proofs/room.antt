pub mod Sums
pub mod Replays
pub mod Pulled
pub mod Copied
pub mod SealedFew
pub mod FittingLanes
pub mod Events
