pub mod Results
pub mod Reports
pub mod Concluded
