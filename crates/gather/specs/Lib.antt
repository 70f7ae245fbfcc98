pub mod Scanned
pub mod Resume
pub mod Named
