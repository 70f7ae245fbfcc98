mod Spent
mod Calls
