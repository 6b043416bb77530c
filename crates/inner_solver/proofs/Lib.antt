mod Loops
mod Joins
mod Orders
pub mod Lengths
mod Calls
mod Rounds
