pub mod Headlines
pub mod history
pub mod duties
pub mod Below
