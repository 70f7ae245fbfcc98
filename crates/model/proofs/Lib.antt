pub mod Counts
pub mod Cuts
