pub mod Small
pub mod Passing
pub mod Lineages
pub mod Rebuilt
