pub mod Gathered
pub mod GatheringChanges
pub mod SegmentGathered
