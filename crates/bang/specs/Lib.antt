pub mod Dtd
pub mod Comment
pub mod Bang
pub mod Examples
