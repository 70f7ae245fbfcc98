pub mod Piece
pub mod Lawful
pub mod Reads
pub mod Awaits
