pub mod Words
pub mod Read
pub mod Steps
pub mod Fields
pub mod Cases
pub mod Lines
