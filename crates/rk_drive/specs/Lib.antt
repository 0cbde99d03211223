pub mod Beginning
pub mod Hands
pub mod Workers
pub mod Driven
pub mod Outcomes
pub mod Words
