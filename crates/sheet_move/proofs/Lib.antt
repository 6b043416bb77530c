pub mod Passed
pub mod Outcomes
pub mod Moves
pub mod Unique
pub mod Laws
pub mod Written
