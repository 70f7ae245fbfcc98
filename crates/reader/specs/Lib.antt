pub mod Token
pub mod State
pub mod Peeked
