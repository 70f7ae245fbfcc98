pub mod Listed
pub mod Text
