pub mod Roles
pub mod Steady
pub mod RoleTaken
pub mod Closed
pub mod Frozen
pub mod ItemsDropped
pub mod Released
pub mod Owned
