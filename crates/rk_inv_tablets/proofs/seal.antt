pub mod SideNumbers
pub mod SidesGrow
pub mod SidesCut
pub mod SidesJoined
pub mod Sealed
