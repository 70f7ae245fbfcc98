pub mod Gathers
pub mod Reports
pub mod Agrees
