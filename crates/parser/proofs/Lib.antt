mod Reached
pub mod Firsts
pub mod Feeds
