pub mod Scene
pub mod Granted
mod Writing
mod Migrating
mod Fetching
mod Crashes
mod Asked
