pub mod Streams
mod Cuts
