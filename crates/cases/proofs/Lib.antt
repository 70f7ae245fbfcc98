mod Filled
mod Parts
mod Numbers
mod Lists
mod Written
pub mod Spelled
