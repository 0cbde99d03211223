pub mod Headlines
pub mod Words
pub mod lineage
pub mod split
pub mod finished
