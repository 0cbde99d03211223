pub mod Served
pub mod Newest
pub mod InPlace
pub mod AppliedOwn
pub mod RebuiltOwned
pub mod Told
