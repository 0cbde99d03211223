pub mod Rows
pub mod Coordinators
pub mod NoticeLaws
