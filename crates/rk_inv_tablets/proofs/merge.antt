pub mod Pieces
pub mod OfRange
pub mod Heirs
pub mod LogsMore
pub mod Merging
pub mod Collected
pub mod Merged
pub mod RebuildMerged
