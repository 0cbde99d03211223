pub mod Ready
pub mod Work
pub mod Below
