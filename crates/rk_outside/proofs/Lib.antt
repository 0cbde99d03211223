pub mod PartLemmas
pub mod SegmentLemmas
mod Places
mod ReplicaLemmas
