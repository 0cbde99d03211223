pub mod Headlines
pub mod Words
pub mod apply
pub mod read
pub mod made
