pub mod Stream
pub mod Cuts
pub mod Sources
pub mod Bounds
pub mod Text
