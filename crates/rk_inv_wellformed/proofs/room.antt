pub mod Rises
pub mod Rooms
pub mod StepsFew
pub mod RoomEvents
