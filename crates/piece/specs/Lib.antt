pub mod Kinds
pub mod Shown
pub mod Next
pub mod Calls
