pub mod Messages
pub mod TabletSays
pub mod Wire
