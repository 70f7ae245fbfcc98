mod Table
pub mod Judged
mod States
mod Loop
