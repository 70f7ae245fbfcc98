pub mod Cases
pub mod Answers
