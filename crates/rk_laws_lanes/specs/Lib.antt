pub mod Counts
pub mod GoodLane
pub mod gathered
pub mod Below
