pub mod Reports
pub mod Events
pub mod Masters
pub mod Visits
