pub mod SmallWorld
pub mod SmallWorldLooks
pub mod SmallWorldLogs
pub mod SmallWorldParts
pub mod SmallWorldSound
pub mod SmallWorldPlayed
pub mod SmallWorldRoom
