pub mod room
pub mod late
pub mod stands
pub mod wires
pub mod applied
pub mod Below
