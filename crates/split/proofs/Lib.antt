pub mod Pieces
pub mod Cuts
pub mod Unseen
pub mod Calls
pub mod Awaits
