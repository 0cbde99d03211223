pub mod Owning
pub mod Preparing
pub mod Granting
pub mod GoingOn
pub mod Rebuilding
