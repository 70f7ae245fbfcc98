pub mod Cuts
pub mod Gathers
pub mod Answers
