pub mod Told
pub mod Cut
pub mod Gather
pub mod Call
pub mod Peek
pub mod Bang
pub mod History
pub mod Agree
