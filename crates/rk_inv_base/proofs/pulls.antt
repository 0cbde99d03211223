pub mod PullingChanges
pub mod HashesResolved
pub mod ItemsPulled
pub mod Replayed
pub mod Joining
