pub mod orders
pub mod stored
pub mod pulls
pub mod copies
pub mod request
pub mod answer
pub mod steps
