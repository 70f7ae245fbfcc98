pub mod Lang
pub mod Xml
pub mod Doctype
pub mod Ends
pub mod Cut
