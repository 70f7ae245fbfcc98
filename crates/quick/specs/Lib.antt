pub mod QuickXml
pub mod Answers
