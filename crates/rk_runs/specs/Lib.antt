pub mod history
pub mod duties
pub mod Below
